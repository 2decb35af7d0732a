use Rattle.std.proofs.Common.{sym, ◌∙◌, rules}
use Rattle.checked.proofs.Names.{name_told, name_is}
use Rattle.checked.proofs.limits.has_fitting_name.Goals as goal

pub returns-clause-fits : goal.returns-clause-fits
returns-clause-fits c = (
  λ e. name_told _ (sym c.name_fits.ensures ∙ e),
  λ each. c.name_fits.ensures ∙ name_is _ (search rules) each,
)

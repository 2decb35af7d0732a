use Rattle.walks.proofs.CodeLaws.{code_below, codes_apart, told}
use Rattle.walks.proofs.codes_name_links.Goals as goal

pub returns : goal.returns
returns c = record { below = code_below; apart = codes_apart; told = told }

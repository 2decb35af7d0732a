use Rattle.std.proofs.Common.{◌≡◌, ℕ, ◌+◌, ◌-◌, unwrap_or, rules, sym, ap, ◌∙◌, arith}
use Rattle.std.proofs.lemmas.Iterator.{YieldsList-from_range, YieldsList-from_map}
use Rattle.std.proofs.lemmas.Iterator.Adapters.{option_map_id}
use Rattle.std.proofs.lemmas.Iterator.Consumers.{max_from_yields_List}
use Rattle.choose.specs.Classes.{crowd_at}
use Rattle.choose.proofs.Rounds.{largest_is_peak}
use Rattle.choose.proofs.crowd.peak_from.Goals as goal

pub returns : goal.returns
returns c =
    let count : ℕ → ℕ = λ k. crowd_at c.args.crowd.now (c.args.start + k) in
    let all : c.args.duration - 0 ≡ c.args.duration = omega arith in
    c.unwrap_or.ensures
    ∙ ap (λ o. unwrap_or o 0) (sym (option_map_id _) ∙ max_from_yields_List c.map.result c.max.result c.max.ensures.ran (YieldsList-from_map _ count (YieldsList-from_range 0 c.args.duration c.args.duration c.map.ensures.source all) c.map.ensures.closure (λ x r q k. search rules)))
    ∙ largest_is_peak c.args.crowd.now c.args.duration c.args.start

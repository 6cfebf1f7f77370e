use Rattle.std.proofs.Common.{◌≡◌, ◌+◌, ◌-◌, Some, take, drop, length, length-drop, ap, sym, ◌∙◌, arith}
use Rattle.std.proofs.lemmas.List.{take_all}
use Rattle.std.specs.Prelude.{position, option_map}
use Rattle.http_routes.specs.Targets.{is_slash}
use Rattle.http_routes.proofs.target.parted.Goals as goal

pub returns : goal.returns
returns c =
    let bytes = c.args.bytes.now in
    let slash = c.in_ok-slash.slash in
    let found : position is_slash bytes ≡ Some slash = sym c.first_slash.ensures.first ∙ c.in_ok-slash.was in
    let behind : take (length bytes - (slash + 1)) (drop (slash + 1) bytes) ≡ drop (slash + 1) bytes = take_all _ _ (simp length-drop (omega arith)) in
    ap (λ rest. Some (take slash bytes, rest)) behind ∙ sym (ap (option_map (λ place. (take place bytes, drop (place + 1) bytes))) found)

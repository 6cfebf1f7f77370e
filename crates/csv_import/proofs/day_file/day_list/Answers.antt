use Rattle.std.proofs.Common.{◌≡◌, ℕ, List, true, length, ap, arith, Ok, Err}
use Rattle.std.specs.BTreeSet.{keys}
use Rattle.std.specs.Ordering.{nat_cmp}
use Rattle.std.proofs.lemmas.Bool.{and_parts}
use Rattle.std.proofs.lemmas.Cmp.{nat_cmp_total}
use Rattle.seq.specs.Ordered.{ascends_by}
use Rattle.seq.proofs.Ascending.{ascends-from_sorted, same_list-from_Contains}
use Rattle.desk_words.specs.SortedLists.{day_before}
use Rattle.csv_import.proofs.FileDayLemmas.{day_count-le}
use Rattle.csv_import.proofs.day_file.day_list.Goals as goal

pub returns-in-Ok : goal.returns-in-Ok
returns-in-Ok c =
    let days : List ℕ = keys c.args.days in
    let up : ascends_by day_before days ≡ true = ascends-from_sorted nat_cmp days c.listed.ensures.ordered in
    ap (λ list. Ok list)
    (same_list-from_Contains nat_cmp_total (λ (day : ℕ). day) days c.in-Ok.days up (and_parts _ _ c.in-Ok.ensures.valid).1
    (λ day has. (c.in-Ok.ensures.days day).1 (rw c.in_ok-listed.ensures.value has))
    (λ day has. rw c.in_ok-listed.ensures.value at ((c.in-Ok.ensures.days day).0 has)))

pub returns-in-Err-Limit : goal.returns-in-Err-Limit
returns-in-Err-Limit c =
    let many = c.in-Err-Limit.ensures.limit.0 (ap (λ e. Err e) c.in-Err-Limit.field-0-is) in
    absurd (omega (arith, many, day_count-le c.in_ok-listed.listed.items, ap length c.in_ok-listed.ensures.value))

-- Blocks in the order of members, taken row by row.
use Rattle.std.proofs.Common.{◌≡◌, ℕ, ◌+◌, ◌<◌, ◌≤◌, true, List, [], ◌∷◌, length, get_or, filter, refl, sym, ap, ◌∙◌, subst, arith, Less}
use Rattle.std.specs.Cmp.{second_so}
use Rattle.std.specs.Cmp.Lexicographic.{nat_list_cmp_total}
use Rattle.std.proofs.lemmas.List.{get_or_default}
use Rattle.seq.specs.Ordered.{ascends_by}
use Rattle.vocabulary.specs.Names.{name_cmp}
use Rattle.desk_words.specs.Registers.{keep_limits, member_before}
use Rattle.desk_words.specs.declared.records.RegisterRow.{RegisterRow}
use Rattle.desk_words.specs.Office.{are_rows}
use Rattle.proxy_rules.proofs.ProxyNameLemmas.{filter-named}
use Rattle.vote_rules.specs.InstructedCasts.{is_on_shares_of, is_past_member}
use Rattle.vote_rules.specs.declared.received.BlockCast.{BlockCast}
use Rattle.vote_rules.proofs.SortedBlocks.{ascends-far, wanted-past}

-- what is left has all that is cast on the rows from that place on
abbrev pub HasRest : List RegisterRow → List BlockCast → ℕ → List BlockCast → Type 0
HasRest rows blocks place left =
    (k : ℕ) (d : RegisterRow) → place ≤ k → k < length rows → filter (is_on_shares_of (get_or rows k d).member) left ≡ filter (is_on_shares_of (get_or rows k d).member) blocks

rows_ascend : (rows : List RegisterRow) → are_rows rows ≡ true → ascends_by member_before rows ≡ true
rows_ascend [] h = refl
rows_ascend (row ∷ rows) h = second_so (keep_limits (row ∷ rows)) (ascends_by member_before (row ∷ rows)) h

-- all that is cast on the row
pub on_this_row : (rows : List RegisterRow) (blocks left : List BlockCast) (place : ℕ) (row : RegisterRow) → HasRest rows blocks place left → place < length rows → row ≡ get_or rows place row
    → filter (is_on_shares_of row.member) left ≡ filter (is_on_shares_of row.member) blocks
on_this_row rows blocks left place row rest lt is =
    subst (λ (r : RegisterRow). filter (is_on_shares_of r.member) left ≡ filter (is_on_shares_of r.member) blocks) (sym is) (rest place row (omega arith) lt)

-- what is cast on the shares of later members is all that is cast on later rows
pub rest_after : (rows : List RegisterRow) (blocks left : List BlockCast) (place : ℕ) (row : RegisterRow) → are_rows rows ≡ true → HasRest rows blocks place left → place < length rows → row ≡ get_or rows place row
    → HasRest rows blocks (place + 1) (filter (is_past_member row.member) left)
rest_after rows blocks left place row h rest lt is = λ k d past within.
    let key : BlockCast → List ℕ = λ cast. cast.block.member in
    let member = (get_or rows k d).member in
    let here : get_or rows place d ≡ row = get_or_default rows place d row lt ∙ sym is in
    let less : name_cmp row.member member ≡ Less =
    ap (λ (r : RegisterRow). name_cmp r.member member) (sym here) ∙ ascends-far nat_list_cmp_total (λ (r : RegisterRow). r.member) rows place k d (rows_ascend rows h) (omega arith) within in
    sym (filter-named key member (filter (is_past_member row.member) left))
    ∙ wanted-past nat_list_cmp_total key row.member member less left
    ∙ filter-named key member left
    ∙ rest k d (omega arith) within

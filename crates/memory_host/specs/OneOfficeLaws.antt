-- What a file in memory stores.
use Rattle.std.proofs.Common.{◌≡◌, inl, inr, refl, sym, subst, ◌∙◌}
use Rattle.cli_exit.proofs.EndingLemmas.{failed}
use Rattle.cli_exit.specs.Endings.{Ending}
use Rattle.cli_exit.specs.declared.ended.ExitError.TheVariants as fault
use Rattle.desk_words.specs.Changes.{empty_office}
use Rattle.desk_words.specs.declared.office.OfficeLists.{OfficeLists}
use Rattle.memory_host.specs.OneOffice.{Creates, HoldsOffice, MayHold, Opens}
use Rattle.memory_host.specs.declared.open_book.OpenBook.{OpenBook}
use Rattle.memory_host.specs.declared.stored.Stored.{Stored}
use Rattle.memory_host.specs.declared.stored.Stored.TheVariants as stored

-- an office that is opened is the one that was stored
pub opened : (Named : Type 0) (old new : Stored) (file : OpenBook) (office : OfficeLists)
    → Named → Opens old file new
    → ((left : OfficeLists) → MayHold Named old left → left ≡ office)
    → (file.book ≡ office) × ((left : OfficeLists) → file.book ≡ left → left ≡ office)
opened Named old new file office named opens stores =
    let held : HoldsOffice (stored.Office file) file.book = refl in
    let is : file.book ≡ office =
    stores file.book (named, subst (λ (s : Stored). HoldsOffice s file.book) (sym opens.0) held) in
    (is, λ left same. sym same ∙ is)

-- what is as it was may hold what it could hold
pub preserved : {F : Type 0} (P : F → OfficeLists → Type 0) (old new : F) (left : OfficeLists)
    → new ≡ old → P new left
    → (was : OfficeLists) × P old was × ((office : OfficeLists) → was ≡ office → left ≡ office)
preserved {F} P old new left same it = (left, subst (λ (f : F). P f left) same it, λ office is. is)

-- one that is closed holds its office
pub closed : (Named : Type 0) (new : Stored) (file : OpenBook) (left : OfficeLists)
    → new ≡ stored.Office file → MayHold Named new left
    → (it : OfficeLists) × (file.book ≡ it)
    × ((office : OfficeLists) → it ≡ office → left ≡ office)
closed Named new file left is may =
    (left, subst (λ (s : Stored). HoldsOffice s left) is may.1, λ office same. same)

-- one that was made holds nothing
pub created : (Named Was : Type 0) (old : Stored) (end : Ending) (new : Stored)
    (left : OfficeLists) → Creates Was old end new → end.status ≡ 0 → MayHold Named new left
    → left ≡ empty_office
created Named Was old end new left (inl made) zero may =
    sym (subst (λ (s : Stored). HoldsOffice s left) made.3.2 may.1) ∙ made.3.1
created Named Was old end new left (inr (same, inl is)) zero may =
    absurd (failed fault.NotEmpty end is zero)
created Named Was old end new left (inr (same, inr (other, is))) zero may =
    absurd (failed fault.Store end is zero)

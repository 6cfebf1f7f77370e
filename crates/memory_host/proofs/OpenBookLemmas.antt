-- What a crash leaves of an office in memory that stands for one in a file.
use Rattle.std.specs.Prelude.{OnOk}
use Rattle.std.proofs.Common.{◌≡◌, ◌⊎◌, inl, inr, refl, sym, ◌∙◌, Result, Ok, Err}
use Rattle.any_office.specs.StoredOffice.{made_by, office_after}
use Rattle.desk_words.specs.declared.office.OfficeLists.{OfficeLists}
use Rattle.desk_words.specs.declared.request.Call.{Call}
use Rattle.meeting_core.specs.Step.{stepped}

-- once a call is answered, the office after its step, and nothing else
pub settled : {T E : Type 0} (result : Result T E) (call : Call) (office new : OfficeLists) → new ≡ office_after office (made_by result call)
    → OnOk result ((left : OfficeLists) → new ≡ left → left ≡ stepped office call)
settled (Ok x) call office new is = λ left same. sym same ∙ is
settled (Err e) call office new is = tt

-- whatever comes of a call, what it was, or the office after the step
pub may_be_left : {T E : Type 0} (result : Result T E) (call : Call) (old new : OfficeLists)
    → ((office : OfficeLists) → old ≡ office → new ≡ office_after office (made_by result call)) → (left : OfficeLists) → new ≡ left
    → (old ≡ left) ⊎ (Unit {0} × ((office : OfficeLists) → old ≡ office → left ≡ stepped office call))
may_be_left (Ok x) call old new after left same = inr (tt, λ office is. sym same ∙ after office is)
may_be_left (Err e) call old new after left same = inl (sym (after old refl) ∙ same)

-- What a crash leaves of an office.
use Rattle.std.proofs.Common.{◌≡◌, ◌⊎◌, List, [], ◌∷◌, Option, Some, None, refl, subst, inl, inr}
use Rattle.any_office.specs.StoredOffice.{IsAfterCall, IsKnownIfOpen, LeavesAtMost, LeavesOnly, office_after}
use Rattle.any_office.specs.OfficeRuns.{LeavesOffice}
use Rattle.any_office.specs.CrashedOffice.{OfficeEvent, CrashesLeaveARun, LeadsOn, MayBeLost, calls_answered}
use Rattle.any_office.specs.CrashedOffice.OfficeEvent.{Reads, Answers, Fails}
use Rattle.any_office.specs.declared.Office as office
use Rattle.desk_words.specs.declared.office.OfficeLists.{OfficeLists}
use Rattle.desk_words.specs.declared.request.Call.{Call}
use Rattle.meeting_core.specs.Step.{run_of, stepped}

abbrev none_lost : Call → Type 0
none_lost call = ⊥

module _ {O : Type 0} (g : office.Ghosts O) where
  -- it is opened as the office, or as the office after a call that failed
  abbrev IsOf : OfficeLists → (Call → Type 0) → g.Left → Type 0
  IsOf office lost left =
      g.opens_as left office ⊎ ((call : Call) × lost call × g.opens_as left (office_after office (Some call)))

  -- where it is open it stores the office, and a crash leaves that, or the office after a call that failed
  record Keeps (s : O) (office : OfficeLists) (lost : Call → Type 0) : Type 0 where
    stands : g.is_open s → g.stands s office
    left : (it : g.Left) → g.may_leave s it → IsOf office lost it

  was_reliable : (old new : O) (asked : List OfficeEvent) → LeadsOn g old asked new → g.is_reliable new → g.is_reliable old
  was_reliable old new [] leads reliable = subst g.is_reliable leads reliable
  was_reliable old new (asked ∷ later) leads reliable = leads.1.was_reliable (was_reliable leads.0 new later leads.3 reliable)

  -- a reading keeps it
  reads_keep : (old new : O) (office : OfficeLists) (lost : Call → Type 0) → LeavesOffice g None old new → (IsKnownIfOpen g.is_open g.stands old → LeavesAtMost g.may_leave old new (λ _. ⊥)) → g.is_reliable new → Keeps old office lost → Keeps new office lost
  reads_keep old new office lost leaves crash reliable keeps = record {
    stands = λ is_open. leaves.stands reliable is_open office (keeps.stands (leaves.was_open reliable is_open));
    left = λ it may. elim (crash (λ is_open. (office, keeps.stands is_open)) it may) [ inl was ↦ keeps.left it was | inr none ↦ absurd none ];
  }

  -- so does a call that fails, but that its office may be left too
  fails_keep : (old new : O) (office : OfficeLists) (lost : Call → Type 0) (failed : Call) → LeavesOffice g None old new → LeavesAtMost g.may_leave old new (IsAfterCall g.is_open g.stands g.opens_as old failed) → g.is_reliable new → Keeps old office lost
      → Keeps new office (λ call. (failed ≡ call) ⊎ lost call)
  fails_keep old new office lost failed leaves crash reliable keeps = record {
    stands = λ is_open. leaves.stands reliable is_open office (keeps.stands (leaves.was_open reliable is_open));
    left = λ it may. elim (crash it may) [
      | inl was ↦ elim (keeps.left it was) [ inl is ↦ inl is | inr after ↦ inr (after.0, inr after.1, after.2) ]
      | inr after ↦ inr (failed, inl refl, after.1 office (keeps.stands after.0))
    ];
  }

  -- a call that is answered leaves the office after its step, and no other
  answers_keep : (old new : O) (office : OfficeLists) (lost : Call → Type 0) (call : Call) → LeavesOffice g (Some call) old new → g.is_open new × ((o : OfficeLists) → g.stands old o → LeavesOnly g.may_leave g.opens_as new (stepped o call)) → g.is_reliable new → Keeps old office lost
      → Keeps new (stepped office call) none_lost
  answers_keep old new office lost call leaves behind reliable keeps =
      let stood = keeps.stands (leaves.was_open reliable behind.0) in
      record {
        stands = λ is_open. leaves.stands reliable is_open office stood;
        left = λ it may. inl (behind.1 office stood it may);
      }

  -- what a crash leaves at the end
  left_of : (old new : O) (asked : List OfficeEvent) → LeadsOn g old asked new → g.is_reliable new → (office : OfficeLists) (lost : Call → Type 0) → Keeps old office lost → (it : g.Left) → g.may_leave new it
      → IsOf (run_of office (calls_answered asked)).office (λ call. lost call ⊎ MayBeLost (Some call) asked) it
  left_of old new [] leads reliable office lost keeps it may =
      elim (keeps.left it (subst (λ (h : O). g.may_leave h it) leads may)) [ inl is ↦ inl is | inr after ↦ inr (after.0, inl after.1, after.2) ]
  left_of old new (Reads ∷ later) leads reliable office lost keeps it may =
      let early = was_reliable leads.0 new later leads.3 reliable in
      left_of leads.0 new later leads.3 reliable office lost (reads_keep old leads.0 office lost leads.1 (leads.2 early) early keeps) it may
  left_of old new (Answers call ∷ later) leads reliable office lost keeps it may =
      let early = was_reliable leads.0 new later leads.3 reliable in
      elim (left_of leads.0 new later leads.3 reliable (stepped office call) none_lost (answers_keep old leads.0 office lost call leads.1 (leads.2 early) early keeps) it may) [
        | inl is ↦ inl is
        | inr after ↦ inr (after.0, elim after.1 [ inl none ↦ absurd none | inr failed ↦ inr failed ], after.2)
      ]
  left_of old new (Fails failed ∷ later) leads reliable office lost keeps it may =
      let early = was_reliable leads.0 new later leads.3 reliable in
      elim (left_of leads.0 new later leads.3 reliable office (λ call. (failed ≡ call) ⊎ lost call) (fails_keep old leads.0 office lost failed leads.1 (leads.2 early) early keeps) it may) [
        | inl is ↦ inl is
        | inr after ↦ inr (after.0, elim after.1 [ inl one ↦ elim one [ inl is ↦ inr (inl is) | inr was ↦ inl was ] | inr more ↦ inr (inr more) ], after.2)
      ]

  pub crashes_run : CrashesLeaveARun g
  crashes_run old new asked leads reliable office stands only it may =
      let keeps : Keeps old office none_lost = record { stands = λ is_open. stands; left = λ l may_be. inl (only l may_be) } in
      elim (left_of old new asked leads reliable office none_lost keeps it may) [
        | inl is ↦ (None, tt, is)
        | inr after ↦ (Some after.0, elim after.1 [ inl none ↦ absurd none | inr failed ↦ failed ], after.2)
      ]

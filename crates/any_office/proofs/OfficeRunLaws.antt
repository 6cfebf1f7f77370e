-- Calls on an office are a run.
use Rattle.std.proofs.Common.{◌≡◌, List, [], ◌∷◌, Option, Some, None, refl, subst, sym}
use Rattle.any_office.specs.StoredOffice.{office_after}
use Rattle.any_office.specs.OfficeRuns.{CallsAreARun, LeadsTo, calls_in}
use Rattle.any_office.specs.declared.Office as office
use Rattle.desk_words.specs.declared.office.OfficeLists.{OfficeLists}
use Rattle.desk_words.specs.declared.request.Call.{Call}
use Rattle.meeting_core.specs.Step.{run_of}

-- the run of what is asked later, behind the call that was made first, if one was
run_first : (office : OfficeLists) (made : Option Call) (later : List (Option Call)) → (run_of (office_after office made) (calls_in later)).office ≡ (run_of office (calls_in (made ∷ later))).office
run_first office None later = refl
run_first office (Some call) later = refl

module _ {O : Type 0} (g : office.Ghosts O) where
  was_reliable : (old new : O) (asked : List (Option Call)) → LeadsTo g old asked new → g.is_reliable new → g.is_reliable old
  was_reliable old new [] leads reliable = subst g.is_reliable leads reliable
  was_reliable old new (made ∷ later) leads reliable = leads.1.was_reliable (was_reliable leads.0 new later leads.2 reliable)

  was_open : (old new : O) (asked : List (Option Call)) → LeadsTo g old asked new → g.is_reliable new → g.is_open new → g.is_open old
  was_open old new [] leads reliable is_open = subst g.is_open leads is_open
  was_open old new (made ∷ later) leads reliable is_open =
      leads.1.was_open (was_reliable leads.0 new later leads.2 reliable) (was_open leads.0 new later leads.2 reliable is_open)

  pub calls_run : CallsAreARun g
  calls_run old new [] leads reliable is_open office stands = subst (λ (h : O). g.stands h office) (sym leads) stands
  calls_run old new (made ∷ later) leads reliable is_open office stands =
      let mid_reliable = was_reliable leads.0 new later leads.2 reliable in
      let mid_open = was_open leads.0 new later leads.2 reliable is_open in
      subst (λ (o : OfficeLists). g.stands new o) (run_first office made later)
      (calls_run leads.0 new later leads.2 reliable is_open (office_after office made) (leads.1.stands mid_reliable mid_open office stands))

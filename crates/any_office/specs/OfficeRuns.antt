-- What is asked of an office, one thing after another.
use Rattle.std.specs.Prelude.{◌≡◌, List, [], ◌∷◌, filter_map, Option}
use Rattle.any_office.specs.StoredOffice.{IsTransition}
use Rattle.any_office.specs.declared.Office as office
use Rattle.desk_words.specs.declared.office.OfficeLists.{OfficeLists}
use Rattle.desk_words.specs.declared.request.Call.{Call}
use Rattle.meeting_core.specs.Step.{run_of}

-- what is left of an office after a call was made, or none
abbrev pub LeavesOffice : {O : Type 0} → office.Ghosts O → Option Call → O → O → Type 0
LeavesOffice g made old new = IsTransition g.is_reliable g.is_open g.stands g.faults made old new

-- what is asked, one thing after another, each with the call that was made, or with none, as of a
-- reading and of a call that failed, leads from one to another as each promises
abbrev pub LeadsTo : {O : Type 0} → office.Ghosts O → O → List (Option Call) → O → Type 0
LeadsTo g old [] new = new ≡ old
LeadsTo {O} g old (made ∷ later) new =
    (between : O) × LeavesOffice g made old between × LeadsTo g between later new

-- the calls that were made
abbrev pub calls_in : List (Option Call) → List Call
calls_in = filter_map (λ (made : Option Call). made)

-- where an office was stored, and what is asked leads to one that is reliable and open, that one
-- stores the office after the run of the calls that were made
abbrev pub CallsAreARun : {O : Type 0} → office.Ghosts O → Type 0
CallsAreARun {O} g =
    (old new : O) (asked : List (Option Call)) → LeadsTo g old asked new
    → g.is_reliable new → g.is_open new → (office : OfficeLists) → g.stands old office
    → g.stands new (run_of office (calls_in asked)).office

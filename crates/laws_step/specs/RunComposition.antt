-- That runs go on.
use Rattle.std.specs.Prelude.{◌≡◌, List, [], ◌∷◌, ◌++◌}
use Rattle.desk_words.specs.declared.office.OfficeLists.{OfficeLists}
use Rattle.desk_words.specs.declared.request.Call.{Call}
use Rattle.meeting_core.specs.Step.{Run, decided, run_of, stepped}

-- a run and one call more: the office after its step, and its reply behind the others
abbrev pub run_and : Run → Call → Run
run_and run call = record {
  office = stepped run.office call;
  replies = run.replies ++ (decided run.office call).reply ∷ [];
}

-- the run of a list of calls goes on from that of the calls before its last
abbrev pub RunsGoOn : Type 0
RunsGoOn =
    (office : OfficeLists) (calls : List Call) (call : Call)
    → run_of office (calls ++ call ∷ []) ≡ run_and (run_of office calls) call

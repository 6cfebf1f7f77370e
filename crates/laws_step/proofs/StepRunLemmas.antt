-- Runs go on.
use Rattle.std.proofs.Common.{◌≡◌, List, [], ◌∷◌, ◌++◌, refl, ap}
use Rattle.desk_words.specs.declared.office.OfficeLists.{OfficeLists}
use Rattle.desk_words.specs.declared.request.Call.{Call}
use Rattle.meeting_core.specs.Step.{after_reply, decided, run_of, stepped}
use Rattle.laws_step.specs.RunComposition.{run_and}

pub runs_go_on : (office : OfficeLists) (calls : List Call) (call : Call) → run_of office (calls ++ call ∷ []) ≡ run_and (run_of office calls) call
runs_go_on office [] call = refl
runs_go_on office (first ∷ calls) call = ap (after_reply (decided office first).reply) (runs_go_on (stepped office first) calls call)

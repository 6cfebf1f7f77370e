-- How the program does not end.
use Rattle.std.proofs.Common.{◌≡◌, ◌≢◌, ℕ, ap, sym, ◌∙◌}
use Rattle.cli_exit.specs.Endings.{Ending, ended_by}
use Rattle.cli_exit.specs.declared.ended.ExitError.{ExitError}

-- with status 0 and a fault
pub failed : (fault : ExitError) (end : Ending) → end ≡ ended_by fault → end.status ≢ 0
failed fault end is zero = let three : ◌≡◌ {A = ℕ} 3 0 = ap (λ (e : Ending). e.status) (sym is) ∙ zero in cc

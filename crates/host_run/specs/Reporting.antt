-- How the program tells of its end.
use Rattle.std.specs.Prelude.{◌≡◌, ◌≢◌, ◌⊎◌, ℕ, List, Some, None, codes, [], ◌∷◌, ◌++◌}
use Rattle.std.specs.Io.KnownBytes.{Appends}
use Rattle.byte_io.specs.Counts.{one_more}
use Rattle.byte_io.specs.Written.{AppendsPrefix}
use Rattle.byte_io.specs.declared.sink.Sink as sink
use Rattle.cli_exit.specs.declared.ended.Ended.{Ended}
use Rattle.cli_exit.specs.declared.line.Line.{Line}
use Rattle.host.specs.PrintedLines.{printed}

-- this text was written whole, and no write failed
abbrev pub Says : {W : Type 0} → sink.Ghosts W → List ℕ → W → W → Type 0
Says g text before after =
    Appends (g.contents before) (g.contents after) text × (g.failures after ≡ g.failures before)

-- a part of this text was written, from its front, and one write failed
abbrev pub SaysPart : {W : Type 0} → sink.Ghosts W → List ℕ → W → W → Type 0
SaysPart g text before after =
    AppendsPrefix (g.contents before) (g.contents after) text
    × (g.failures after ≡ one_more (g.failures before))

-- either
abbrev pub SaysAtMost : {W : Type 0} → sink.Ghosts W → List ℕ → W → W → Type 0
SaysAtMost g text before after = Says g text before after ⊎ SaysPart g text before after

-- what is said once a port is bound
abbrev pub listening : List ℕ
listening = codes "listening" ++ (10 ∷ [])

-- an end with no line prints nothing. With status 0 its line is printed on standard output, and
-- where that fails, the program ends with 3 and says `WriteFault` on standard error. With another
-- status its line is printed on standard error, as far as that goes.
pub record Reports {W E : Type 0} (w : sink.Ghosts W) (e : sink.Ghosts E) (ended : Ended)
    (output output' : W) (errors errors' : E) (status : ℕ) : Type 0 where
  pub silent : ended.line ≡ None
      → (status ≡ ended.status) × (output' ≡ output) × (errors' ≡ errors)
  pub said : (line : Line) → ended.line ≡ Some line → ended.status ≡ 0
      → ((status ≡ 0) × Says w (printed line) output output' × (errors' ≡ errors))
      ⊎ ((status ≡ 3) × SaysPart w (printed line) output output'
      × SaysAtMost e (codes "WriteFault" ++ (10 ∷ [])) errors errors')
  pub complained : (line : Line) → ended.line ≡ Some line → ended.status ≢ 0
      → (status ≡ ended.status) × (output' ≡ output) × SaysAtMost e (printed line) errors errors'

-- The end of a connection.
use Rattle.std.specs.Prelude.{◌≡◌, ◌⊎◌, ℕ, ◌+◌, ◌<◌, Result, IfOk, OnErr}
use Rattle.std.specs.Io.KnownBytes.{IsAtEnd}
use Rattle.byte_io.specs.Counts.{one_more}
use Rattle.byte_io.specs.declared.failure.DeviceError.{DeviceError}
use Rattle.byte_io.specs.declared.source.Source as source
use Rattle.tcp_close.specs.Draining.{PassesAtMost}
use Rattle.tcp_close.specs.declared.closing.Closing as closing
use Rattle.tcp_close.specs.declared.ending.TheConstants.{MOST_DRAINED}

module _ {S : Type 0} (s : source.Ghosts S) (c : closing.Ghosts S) where
  -- a source was drained: up to its end, up to the bound, or up to a call that failed
  pub record Drains (old new : S) : Type 0 where
    pub result : Result ℕ DeviceError
    pub gave : PassesAtMost MOST_DRAINED (s.remaining old) (s.remaining new) (s.passed old)
        (s.passed new)
    pub count : IfOk result (λ n. s.passed new ≡ s.passed old + n)
    pub end : IfOk result (λ n. n < MOST_DRAINED → IsAtEnd (s.remaining new))
    pub failed : OnErr result (s.failures new ≡ one_more (s.failures old))

  -- it waits for nothing, and was drained then; or it goes on waiting, and nothing was taken
  abbrev pub TakesRest : S → S → Type 0
  TakesRest old new =
      ((still : S) × c.stops_waiting old still × Drains still new) ⊎ c.keeps_waiting old new

  -- the reply was ended, and then the rest was taken
  abbrev pub EndsInOrder : S → S → Type 0
  EndsInOrder old new = (replied : S) × c.ends_reply old replied × TakesRest replied new

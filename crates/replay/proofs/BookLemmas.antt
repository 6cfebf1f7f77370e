-- A replay on a book that is forgotten.
use Rattle.std.proofs.Common.{ℕ, List}
use Rattle.std.specs.Prelude.{Option, Some, None, IfSome, Result, Ok, Err, IfErr, OnOk}
use Rattle.std.specs.Io.KnownBytes.{Appends}
use Rattle.line_reader.specs.Lines.{lines_of}
use Rattle.desk_words.specs.Changes.{empty_office}
use Rattle.desk_words.specs.declared.office.OfficeLists.{OfficeLists}
use Rattle.replay.specs.Transcript.{AreAnswered, AreAnsweredOn, IsForgotten, IsMemory, IsReplayedUntil, IsReplayedUntilOn}
use Rattle.replay.specs.declared.script.ReplayFault.{ReplayFault}
use Rattle.replay.specs.declared.script.ReplayFault.TheVariants.{Read, Write}

pub on_ok : {T E : Type 0} {P Q : Type 0} (r : Result T E) → (P → Q) → OnOk r P → OnOk r Q
on_ok (Ok x) f h = f h
on_ok (Err e) f h = tt

pub on_err : {T E : Type 0} {P Q : E → Type 0} (r : Result T E) → ((e : E) → P e → Q e) → IfErr r P → IfErr r Q
on_err (Ok x) f h = tt
on_err (Err e) f h = f e h

forgotten : (IsLeft : OfficeLists → Type 0) (lines : List (List ℕ)) (IsWritten : List ℕ → Type 0) → AreAnsweredOn IsMemory empty_office IsLeft lines IsWritten
    → AreAnsweredOn IsMemory empty_office IsForgotten lines IsWritten
forgotten IsLeft lines IsWritten a = record { failed = a.failed; each = a.each; causes = a.causes; written = a.written; left = tt }

pub forgotten-all : (known : Option (List ℕ)) (IsLeft : OfficeLists → Type 0) (old new : Option (List ℕ))
    → IfSome known (λ input. AreAnsweredOn IsMemory empty_office IsLeft (lines_of input) (Appends old new)) → IfSome known (λ input. AreAnswered (lines_of input) old new)
forgotten-all None IsLeft old new a = tt
forgotten-all (Some input) IsLeft old new a = forgotten IsLeft (lines_of input) (Appends old new) a

until : (fault : ReplayFault) (input : List ℕ) (given : ℕ) (IsLeft : OfficeLists → Type 0) (old new : Option (List ℕ)) → IsReplayedUntilOn IsMemory empty_office IsLeft fault input given old new
    → IsReplayedUntil fault input given old new
until Read input given IsLeft old new a = record { count = a.count; each_that_came = a.each_that_came; answered = forgotten IsLeft _ _ a.answered }
until Write input given IsLeft old new a = record { count = a.count; answered = forgotten IsLeft _ _ a.answered }

pub forgotten-until : (known : Option (List ℕ)) (IsLeft : OfficeLists → Type 0) (fault : ReplayFault) (given : ℕ) (old new : Option (List ℕ))
    → IfSome known (λ input. IsReplayedUntilOn IsMemory empty_office IsLeft fault input given old new) → IfSome known (λ input. IsReplayedUntil fault input given old new)
forgotten-until None IsLeft fault given old new a = tt
forgotten-until (Some input) IsLeft fault given old new a = until fault input given IsLeft old new a

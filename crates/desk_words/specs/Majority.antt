-- The majority that carries a resolution.
use Rattle.std.specs.Prelude.{ℕ, ◌+◌, ◌*◌, Bool, ◌&&◌, nat_lt, nat_le}
use Rattle.vocabulary.specs.declared.kinds.ResKind.{ResKind}
use Rattle.vocabulary.specs.declared.kinds.ResKind.TheVariants.{Ordinary, Special}
use Rattle.desk_words.specs.declared.records.Tally.{Tally}
use Rattle.desk_words.specs.declared.reply.Declaration.{Declaration}

-- whether a resolution is carried: an ordinary one by more votes for than against (section 282), a
-- special one by at least three quarters of the votes (section 283), and neither without votes
abbrev pub is_carried : ResKind → ℕ → ℕ → Bool
is_carried Ordinary votes_for votes_against = nat_lt votes_against votes_for
is_carried Special votes_for votes_against =
    nat_lt 0 (votes_for + votes_against) && nat_le (3 * (votes_for + votes_against)) (4 * votes_for)

-- the result of a poll on a resolution of this kind: its count, and whether that carries the
-- resolution (sections 282 and 283)
abbrev pub result_of : ResKind → Tally → Declaration
result_of kind tally = record {
  tally = tally;
  carried = is_carried kind tally.votes_for tally.votes_against;
}

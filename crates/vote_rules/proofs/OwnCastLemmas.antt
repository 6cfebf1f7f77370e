-- The count of a poll reads the votes on its own resolution.
use Rattle.std.proofs.Common.{◌≡◌, ℕ, List, Bool, true, false, ◌&&◌, cond, refl, ap, ◌∙◌}
use Rattle.std.specs.Prelude.{◌==◌, Option, None, reverse}
use Rattle.vocabulary.specs.Names.{same_name}
use Rattle.vocabulary.specs.declared.kinds.Capacity.{Capacity}
use Rattle.vocabulary.specs.declared.kinds.Way.{Way}
use Rattle.desk_words.specs.declared.records.Appointment.{Appointment}
use Rattle.desk_words.specs.declared.records.Authority.{Authority}
use Rattle.desk_words.specs.declared.records.CastMark.{CastMark}
use Rattle.desk_words.specs.declared.records.Ending.{Ending}
use Rattle.desk_words.specs.declared.records.RegisterRow.{RegisterRow}
use Rattle.proxy_rules.specs.Holdings.{holding_by}
use Rattle.proxy_rules.specs.declared.meeting_records.Cutoffs.{Cutoffs}
use Rattle.proxy_rules.proofs.ProxyListLemmas.{reverse-filter}
use Rattle.vote_rules.specs.Casts.{Share, find_map, instructed_way, last_cast, way_cast, way_over}
use Rattle.vote_rules.specs.TallyLaws.{casts_on}
use Rattle.vote_rules.specs.Tallies.{share_at, tally_by, tally_of}
use Rattle.vote_rules.specs.Votes.{Casts, valid_vote}
use Rattle.vote_rules.proofs.VoteListLemmas.{find_map-filter}

on_it : (right own : Bool) (o : Option Way) → cond right (cond (right && own) o None) None ≡ cond (right && own) o None
on_it true own o = refl
on_it false own o = refl

-- what a voter cast last on a share is known from the votes on the resolution
pub own_casts : (casts : List CastMark) (resolution : ℕ) (share : Share) (capacity : Capacity) (voter : List ℕ) → last_cast (casts_on resolution casts) resolution share capacity voter ≡ last_cast casts resolution share capacity voter
own_casts casts resolution share capacity voter =
    ap (find_map (way_cast resolution share capacity voter)) (reverse-filter (λ (mark : CastMark). mark.resolution == resolution) casts)
    ∙ find_map-filter (way_cast resolution share capacity voter) (λ (mark : CastMark). mark.resolution == resolution) (reverse casts)
    ∙ ap (λ f. find_map f (reverse casts)) (λ i (mark : CastMark). on_it (mark.resolution == resolution) (same_name mark.voter voter) (way_over capacity share (instructed_way resolution share voter) mark.what) i)

-- and so is the count
pub own_tally : (cutoffs : Cutoffs) (register : List RegisterRow) (given : List Appointment) (ended : List Ending) (authorities : List Authority) (casts : List CastMark) (resolution : ℕ) → tally_of cutoffs register given ended authorities (casts_on resolution casts) resolution ≡ tally_of cutoffs register given ended authorities casts resolution
own_tally cutoffs register given ended authorities casts resolution =
    ap (λ (cast : Share → Casts). tally_by (λ (row : RegisterRow) place. let share = share_at cutoffs (holding_by given ended row) row.member place in valid_vote (cast share) authorities resolution row share.governing) register)
    (λ i (share : Share) capacity voter. own_casts casts resolution share capacity voter i)

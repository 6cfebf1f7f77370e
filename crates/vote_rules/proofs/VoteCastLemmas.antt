-- A voter's cast on a share, by the covers of its casts.
use Rattle.std.proofs.Common.{◌≡◌, ℕ, Bool, true, false, ◌&&◌, cond, List, [], ◌∷◌, ◌++◌, map, refl, sym, ap, ◌∙◌}
use Rattle.std.specs.Prelude.{Option, Some, None, ◌==◌, nat_lt, filter, reverse, option_and_then}
use Rattle.std.specs.List.{enumerate_from, filter_map}
use Rattle.std.specs.Option.{option_or}
use Rattle.std.proofs.lemmas.List.{reverse-append}
use Rattle.vocabulary.specs.Names.{same_name}
use Rattle.vocabulary.specs.Places.{holds}
use Rattle.vocabulary.specs.declared.kinds.Capacity.{Capacity}
use Rattle.vocabulary.specs.declared.kinds.Capacity.TheVariants.{Proxy}
use Rattle.vocabulary.specs.declared.kinds.Way.{Way}
use Rattle.vocabulary.specs.declared.kinds.Way.TheVariants.{For, Against, Withheld}
use Rattle.desk_words.specs.declared.records.Block.{Block}
use Rattle.desk_words.specs.declared.records.CastKind.{CastKind}
use Rattle.desk_words.specs.declared.records.CastKind.TheVariants as cast
use Rattle.desk_words.specs.declared.records.CastMark.{CastMark}
use Rattle.proxy_rules.proofs.ProxyListLemmas.{reverse-filter}
use Rattle.proxy_rules.proofs.TurnedLists.{filter_map-reverse}
use Rattle.share_blocks.specs.Covers.{Cover, tags_of}
use Rattle.share_blocks.specs.Pieces.{is_place}
use Rattle.share_blocks.proofs.BlockCoverLemmas.{tags_at-place}
use Rattle.vote_rules.specs.Casts.{Share, find_map, instructed_way, last_cast, way_cast, way_over}
use Rattle.proxy_rules.specs.Parties.{same_capacity}
use Rattle.vote_rules.specs.VoteCovers.{as_proxy, cast_among, cover_of, vote_covers, whole_cover, way_number, way_tagged}
use Rattle.vote_rules.specs.InstructedCasts.{Entry, is_as_instructed, block_by, block_on, blocks_on, is_after, is_before, is_instructed_on, is_on_shares_of, last_instructed}
use Rattle.vote_rules.specs.declared.received.BlockCast.{BlockCast}
use Rattle.vote_rules.proofs.VoteListLemmas.{find_map-append, find_map-filter, find_map-filter_map}
use Rattle.vote_rules.proofs.LastInstructed.{last_instructed_suffices, parted, unnumbered}

-- ---- the way of a place by its covers

-- the way of a cover that holds the place
abbrev pub cover_way : Option Way → ℕ → Cover → Option Way
cover_way instructed place cover = cond (holds cover.0 place) (way_tagged instructed cover.1) None

find_map-map : {X Y Z : Type 0} (f : Y → Option Z) (h : X → Y) (xs : List X) → find_map f (map h xs) ≡ find_map (λ x. f (h x)) xs
find_map-map f h [] = refl
find_map-map f h (x ∷ xs) = ap (option_or (f (h x))) (find_map-map f h xs)

-- the way of the newest cover that holds the place and has one
pub way_of_covers : (instructed : Option Way) (covers : List Cover) (place : ℕ) → find_map (way_tagged instructed) (tags_of covers place) ≡ find_map (cover_way instructed place) (reverse covers)
way_of_covers instructed covers place =
    find_map-map (way_tagged instructed) (λ (c : Cover). c.1) (filter (λ (c : Cover). holds c.0 place) (reverse covers))
    ∙ find_map-filter (λ (c : Cover). way_tagged instructed c.1) (λ (c : Cover). holds c.0 place) (reverse covers)

pub way_of_tag : (instructed : Option Way) (way : Way) → way_tagged instructed (way_number way) ≡ Some way
way_of_tag instructed For = refl
way_of_tag instructed Against = refl
way_of_tag instructed Withheld = refl

none_either : {X : Type 0} (b : Bool) → cond {A = Option X} b None None ≡ None
none_either true = refl
none_either false = refl

and_then_if : {X Y : Type 0} (f : X → Option Y) (b : Bool) (x : X) → option_and_then f (cond b (Some x) None) ≡ cond b (f x) None
and_then_if f true x = refl
and_then_if f false x = refl

-- ---- records on a resolution

module _ (resolution : ℕ) (share : Share) (capacity : Capacity) (voter : List ℕ) where
  abbrev instructed : Option Way
  instructed = as_proxy capacity (instructed_way resolution share voter)

  -- the way of a block that the voter casts on the share, in the capacity
  abbrev block_way : CastMark → Option Way
  block_way mark = cond (mark.resolution == resolution && same_name mark.voter voter) (way_over capacity share None mark.what) None

  -- the voter casts on the resolution as instructed
  abbrev as_wanted : CastMark → Bool
  as_wanted mark = is_instructed_on resolution mark && same_name mark.voter voter

  by_kind : (right own : Bool) (what : CastKind) → cond (right && own) (way_over capacity share (instructed_way resolution share voter) what) None
      ≡ cond ((right && is_as_instructed what) && own) instructed (cond (right && own) (way_over capacity share None what) None)
  by_kind true own (cast.Block block) = refl
  by_kind false own (cast.Block block) = refl
  by_kind true true cast.AsInstructed = refl
  by_kind true false cast.AsInstructed = refl
  by_kind false own cast.AsInstructed = refl

  splits : (mark : CastMark) → way_cast resolution share capacity voter mark ≡ cond (as_wanted mark) instructed (block_way mark)
  splits mark = by_kind (mark.resolution == resolution) (same_name mark.voter voter) mark.what

  wanted_only : (right own : Bool) (what : CastKind) → ((right && is_as_instructed what) && own) ≡ true → cond (right && own) (way_over capacity share None what) None ≡ None
  wanted_only true own (cast.Block block) wanted = absurd (cc)
  wanted_only false own (cast.Block block) wanted = refl
  wanted_only true true cast.AsInstructed wanted = none_either (same_capacity Proxy capacity)
  wanted_only true false cast.AsInstructed wanted = refl
  wanted_only false own cast.AsInstructed wanted = refl

  apart : (mark : CastMark) → as_wanted mark ≡ true → block_way mark ≡ None
  apart mark wanted = wanted_only (mark.resolution == resolution) (same_name mark.voter voter) mark.what wanted

  -- ---- blocks that are cast on the member's shares

  abbrev way_of_block : BlockCast → Option Way
  way_of_block c = option_and_then (cover_way instructed share.place) (cover_of capacity voter c)

  with_tests : (own mine on held pass : Bool) (o : Option Way)
      → cond on (cond pass (cond (mine && own) (cond held o None) None) None) None ≡ cond pass (cond own (cond (mine && on && held) o None) None) None
  with_tests true true true held pass o = refl
  with_tests true false true held pass o = refl
  with_tests false true true held pass o = refl
  with_tests false false true held pass o = refl
  with_tests true true false held pass o = sym (none_either pass)
  with_tests true false false held pass o = sym (none_either pass)
  with_tests false mine false held pass o = sym (none_either pass)

  entry_block : (test : BlockCast → Bool) (order : ℕ) (by : List ℕ) (right : Bool) (what : CastKind) (passes : Bool) → ((block : Block) → test (record { order = order; voter = by; block = block }) ≡ passes)
      → option_and_then (λ (c : BlockCast). cond (is_on_shares_of share.member c) (cond (test c) (way_of_block c) None) None) (block_by order by right what)
      ≡ cond passes (cond (right && same_name by voter) (way_over capacity share None what) None) None
  entry_block test order by false (cast.Block block) passes is = sym (none_either passes)
  entry_block test order by true (cast.Block block) passes is =
      let mine = same_capacity block.capacity capacity in
      let own = same_name by voter in
      let on = same_name block.member share.member in
      let held = holds block.range share.place in
      ap (λ p. cond on (cond p (way_of_block (record { order = order; voter = by; block = block })) None) None) (is block)
      ∙ ap (λ o. cond on (cond passes o None) None) (and_then_if (cover_way instructed share.place) (mine && own) (block.range, way_number block.way))
      ∙ ap (λ o. cond on (cond passes (cond (mine && own) (cond held o None) None) None) None) (way_of_tag instructed block.way)
      ∙ with_tests own mine on held passes (Some block.way)
  entry_block test order by true cast.AsInstructed passes is =
      sym (ap (λ o. cond passes (cond (same_name by voter) o None) None) (none_either (same_capacity Proxy capacity)) ∙ ap (λ o. cond passes o None) (none_either (same_name by voter)) ∙ none_either passes)
  entry_block test order by false cast.AsInstructed passes is = sym (none_either passes)

  -- the way of the newest block of the voter that passes a test
  blocks_way : (blocks : List BlockCast) → find_map (cover_way instructed share.place) (reverse (filter_map (cover_of capacity voter) blocks)) ≡ find_map way_of_block (reverse blocks)
  blocks_way blocks =
      ap (find_map (cover_way instructed share.place)) (filter_map-reverse (cover_of capacity voter) blocks)
      ∙ find_map-filter_map (cover_way instructed share.place) (cover_of capacity voter) (reverse blocks)

  turned : (casts : List CastMark) → reverse (filter (is_on_shares_of share.member) (blocks_on resolution casts)) ≡ filter (is_on_shares_of share.member) (filter_map (block_on resolution) (reverse (enumerate_from 0 casts)))
  turned casts =
      reverse-filter (is_on_shares_of share.member) (blocks_on resolution casts)
      ∙ ap (filter (is_on_shares_of share.member)) (filter_map-reverse (block_on resolution) (enumerate_from 0 casts))

  all_ways : (casts : List CastMark)
      → find_map (cover_way instructed share.place) (reverse (filter_map (cover_of capacity voter) (filter (is_on_shares_of share.member) (blocks_on resolution casts))))
      ≡ find_map (λ (e : Entry). block_way e.1) (reverse (enumerate_from 0 casts))
  all_ways casts =
      let entries = reverse (enumerate_from 0 casts) in
      blocks_way (filter (is_on_shares_of share.member) (blocks_on resolution casts))
      ∙ ap (find_map way_of_block) (turned casts)
      ∙ find_map-filter way_of_block (is_on_shares_of share.member) (filter_map (block_on resolution) entries)
      ∙ find_map-filter_map (λ (c : BlockCast). cond (is_on_shares_of share.member c) (way_of_block c) None) (block_on resolution) entries
      ∙ ap (λ f. find_map f entries) (λ i (e : Entry). entry_block (λ c. true) e.0 e.1.voter (e.1.resolution == resolution) e.1.what true (λ block. refl) i)

  some_ways : (casts : List CastMark) (test : BlockCast → Bool) (passes : ℕ → Bool) → ((c : BlockCast) → test c ≡ passes c.order)
      → find_map (cover_way instructed share.place) (reverse (filter_map (cover_of capacity voter) (filter test (filter (is_on_shares_of share.member) (blocks_on resolution casts)))))
      ≡ find_map (λ (e : Entry). cond (passes e.0) (block_way e.1) None) (reverse (enumerate_from 0 casts))
  some_ways casts test passes are =
      let entries = reverse (enumerate_from 0 casts) in
      blocks_way (filter test (filter (is_on_shares_of share.member) (blocks_on resolution casts)))
      ∙ ap (find_map way_of_block) (reverse-filter test (filter (is_on_shares_of share.member) (blocks_on resolution casts)))
      ∙ find_map-filter way_of_block test (reverse (filter (is_on_shares_of share.member) (blocks_on resolution casts)))
      ∙ ap (find_map (λ (c : BlockCast). cond (test c) (way_of_block c) None)) (turned casts)
      ∙ find_map-filter (λ (c : BlockCast). cond (test c) (way_of_block c) None) (is_on_shares_of share.member) (filter_map (block_on resolution) entries)
      ∙ find_map-filter_map (λ (c : BlockCast). cond (is_on_shares_of share.member c) (cond (test c) (way_of_block c) None) None) (block_on resolution) entries
      ∙ ap (λ f. find_map f entries) (λ i (e : Entry). entry_block test e.0 e.1.voter (e.1.resolution == resolution) e.1.what (passes e.0) (λ block. are (record { order = e.0; voter = e.1.voter; block = block })) i)

  -- ---- all of the voter's covers

  covers_way : (casts : List CastMark) (last : Option ℕ) → is_place share.place ≡ true
      → find_map (cover_way instructed share.place) (reverse (vote_covers capacity voter (filter (is_on_shares_of share.member) (blocks_on resolution casts)) last))
      ≡ parted (way_cast resolution share capacity voter) block_way as_wanted instructed splits apart last 0 casts
  covers_way casts None place = all_ways casts
  covers_way casts (Some order) place =
      let on = filter (is_on_shares_of share.member) (blocks_on resolution casts) in
      let earlier = filter_map (cover_of capacity voter) (filter (is_before order) on) in
      let later = filter_map (cover_of capacity voter) (filter (is_after order) on) in
      let way = cover_way instructed share.place in
      ap (find_map way) (reverse-append (earlier ++ whole_cover ∷ []) later ∙ ap (λ l. reverse later ++ l) (reverse-append earlier (whole_cover ∷ [])))
      ∙ find_map-append way (reverse later) (whole_cover ∷ reverse earlier)
      ∙ ap (λ b. option_or (find_map way (reverse later)) (option_or (cond b instructed None) (find_map way (reverse earlier)))) place
      ∙ ap (λ o. option_or o (option_or instructed (find_map way (reverse earlier)))) (some_ways casts (is_after order) (λ n. nat_lt order n) (λ c. refl))
      ∙ ap (λ o. option_or (find_map (λ (e : Entry). cond (nat_lt order e.0) (block_way e.1) None) (reverse (enumerate_from 0 casts))) (option_or instructed o)) (some_ways casts (is_before order) (λ n. nat_lt n order) (λ c. refl))

  -- the voter's cast on the share, by its covers
  pub cast_among-last_cast : (casts : List CastMark) → is_place share.place ≡ true
      → cast_among (filter (is_on_shares_of share.member) (blocks_on resolution casts)) (last_instructed resolution casts) resolution share capacity voter ≡ last_cast casts resolution share capacity voter
  cast_among-last_cast casts place =
      let covers = vote_covers capacity voter (filter (is_on_shares_of share.member) (blocks_on resolution casts)) (last_instructed resolution casts voter) in
      ap (find_map (way_tagged instructed)) (tags_at-place covers share.place place)
      ∙ way_of_covers instructed covers share.place
      ∙ covers_way casts (last_instructed resolution casts voter) place
      ∙ sym (last_instructed_suffices (way_cast resolution share capacity voter) block_way as_wanted instructed splits apart 0 casts)
      ∙ unnumbered (way_cast resolution share capacity voter) 0 casts

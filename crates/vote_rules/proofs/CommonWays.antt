-- The common way of casts, taken one by one.
use Rattle.std.proofs.Common.{◌≡◌, Bool, true, false, cond, List, [], ◌∷◌, ◌++◌, refl, sym, ap, ◌∙◌}
use Rattle.std.specs.Prelude.{◌&&◌, Option, Some, None}
use Rattle.std.specs.List.{cons_option, filter_map, list_all}
use Rattle.std.proofs.lemmas.List.{append-nil}
use Rattle.std.proofs.lemmas.List.Elements.{filter_map-append}
use Rattle.std.proofs.lemmas.List.Folds.{list_all-append}
use Rattle.vocabulary.specs.declared.kinds.Way.{Way}
use Rattle.vocabulary.specs.declared.kinds.Way.TheVariants.{For, Against, Withheld}
use Rattle.proxy_rules.specs.Instructions.{same_way}
use Rattle.vote_rules.specs.Ballots.{joined_way}
use Rattle.vote_rules.specs.Votes.{common_way}

pub same_way-refl : (way : Way) → same_way way way ≡ true
same_way-refl For = refl
same_way-refl Against = refl
same_way-refl Withheld = refl

and-true : (b : Bool) → (b && true) ≡ b
and-true true = refl
and-true false = refl

-- one more, behind those that are all the first's way or are not
one_more : (first way : Way) (alike : Bool) → cond (alike && (same_way first way && true)) (Some first) None ≡ joined_way (Some (cond alike (Some first) None)) way
one_more first way true = ap (λ b. cond b (Some first) None) (and-true (same_way first way))
one_more first way false = refl

-- the common way of casts and of one more behind them
pub common-joined : (ways : List Way) (way : Way) → common_way (ways ++ way ∷ []) ≡ Some (joined_way (common_way ways) way)
common-joined [] way = ap (λ b. Some (cond (b && true) (Some way) None)) (same_way-refl way)
common-joined (first ∷ ways) way =
    ap (λ b. Some (cond b (Some first) None)) (list_all-append (same_way first) (first ∷ ways) (way ∷ []))
    ∙ ap Some (one_more first way (list_all (same_way first) (first ∷ ways)))

-- a voter more, who has a cast or none
pub common-more : {X : Type 0} (cast : X → Option Way) (front : List X) (x : X) (way : Way) (common : Option (Option Way)) → cast x ≡ Some way → common ≡ common_way (filter_map cast front)
    → Some (joined_way common way) ≡ common_way (filter_map cast (front ++ x ∷ []))
common-more cast front x way common is so =
    ap (λ c. Some (joined_way c way)) so
    ∙ sym (common-joined (filter_map cast front) way)
    ∙ ap (λ o. common_way (filter_map cast front ++ cons_option o [])) (sym is)
    ∙ ap common_way (sym (filter_map-append cast front (x ∷ [])))

pub common-same : {X : Type 0} (cast : X → Option Way) (front : List X) (x : X) (common : Option (Option Way)) → cast x ≡ None → common ≡ common_way (filter_map cast front)
    → common ≡ common_way (filter_map cast (front ++ x ∷ []))
common-same cast front x common is so =
    so
    ∙ ap common_way (sym (append-nil (filter_map cast front)))
    ∙ ap (λ o. common_way (filter_map cast front ++ cons_option o [])) (sym is)
    ∙ ap common_way (sym (filter_map-append cast front (x ∷ [])))

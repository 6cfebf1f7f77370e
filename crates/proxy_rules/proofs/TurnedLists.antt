-- Turned lists.
use Rattle.std.proofs.Common.{◌≡◌, List, [], ◌∷◌, ◌++◌, refl, sym, ap, ◌∙◌}
use Rattle.std.specs.Prelude.{Option, Some, None, reverse}
use Rattle.std.specs.List.{filter_map, cons_option}
use Rattle.std.proofs.lemmas.List.{reverse-append, append-nil}
use Rattle.std.proofs.lemmas.List.Elements.{filter_map-append}

reverse-cons_option : {X : Type 0} (o : Option X) (xs : List X) → reverse (cons_option o xs) ≡ reverse xs ++ cons_option o []
reverse-cons_option None xs = sym (append-nil (reverse xs))
reverse-cons_option (Some x) xs = reverse-append (x ∷ []) xs

pub filter_map-reverse : {X Y : Type 0} (h : X → Option Y) (xs : List X) → reverse (filter_map h xs) ≡ filter_map h (reverse xs)
filter_map-reverse h [] = refl
filter_map-reverse h (x ∷ xs) =
    reverse-cons_option (h x) (filter_map h xs)
    ∙ ap (λ ys. ys ++ cons_option (h x) []) (filter_map-reverse h xs)
    ∙ sym (ap (filter_map h) (reverse-append (x ∷ []) xs) ∙ filter_map-append h (reverse xs) (x ∷ []))

-- Slices that are filled from the front.
use Rattle.std.proofs.Common.{◌≡◌, ◌<◌, ◌≤◌, ◌+◌, ℕ, List, [], ◌∷◌, ◌++◌, map, length, take, drop, set, get_or, sym, ap, ◌∙◌, arith, length-append, append_assoc}
use Rattle.std.proofs.lemmas.List.{map-append, length-map, take_more, drop_more, length-take-le}
use Rattle.std.proofs.Math.Seq.{set-append_seam}

module _ {A : Type 0} where
  -- one more is put behind those at the front
  pub put_next : (front old room : List A) (k : ℕ) (x : A) → length front ≡ k → room ≡ front ++ drop k old → k < length old → set room k x ≡ (front ++ x ∷ []) ++ drop (k + 1) old
  put_next front old room k x long is fits =
      ap (λ r. set r k x) (is ∙ ap (λ rest. front ++ rest) (drop_more old k x fits))
      ∙ ap (λ n. set (front ++ get_or old k x ∷ drop (k + 1) old) n x) (sym long)
      ∙ set-append_seam front _ (drop (k + 1) old) x
      ∙ sym (append_assoc front (x ∷ []) (drop (k + 1) old))

  module _ {I : Type 0} (f : I → A) where
    -- those of the first so many
    abbrev pub fronted : ℕ → List I → List A → ℕ → List A
    fronted at ids old i = take at old ++ map f (take i ids)

    front_long : (at : ℕ) (ids : List I) (old : List A) (i : ℕ) → at ≤ length old → i ≤ length ids → length (fronted at ids old i) ≡ at + i
    front_long at ids old i l m =
        let a : length (take at old) ≡ at = length-take-le at old l in
        let b : length (map f (take i ids)) ≡ length (take i ids) = length-map (take i ids) f in
        let c : length (take i ids) ≡ i = length-take-le i ids m in
        length-append (take at old) (map f (take i ids)) ∙ omega (arith, a, b, c)

    front_more : (at : ℕ) (ids : List I) (old : List A) (i : ℕ) (d : I) → i < length ids → fronted at ids old (i + 1) ≡ fronted at ids old i ++ f (get_or ids i d) ∷ []
    front_more at ids old i d l =
        ap (λ xs. take at old ++ map f xs) (take_more ids i d l)
        ∙ ap (λ xs. take at old ++ xs) (map-append f (take i ids) (get_or ids i d ∷ []))
        ∙ sym (append_assoc (take at old) (map f (take i ids)) (f (get_or ids i d) ∷ []))

    pub one_put : (at : ℕ) (ids : List I) (old room : List A) (i next : ℕ) (d : I) → next ≡ at + i → room ≡ fronted at ids old i ++ drop (at + i) old → at + length ids ≤ length old → i < length ids
        → set room next (f (get_or ids i d)) ≡ fronted at ids old (i + 1) ++ drop (at + (i + 1)) old
    one_put at ids old room i next d e is fits l =
        ap (λ k. set room k (f (get_or ids i d))) e
        ∙ put_next (fronted at ids old i) old room (at + i) (f (get_or ids i d)) (front_long at ids old i (omega (arith, fits)) (omega (arith, l))) is (omega (arith, fits, l))
        ∙ ap (λ xs. xs ++ drop (at + i + 1) old) (sym (front_more at ids old i d l))
        ∙ ap (λ k. fronted at ids old (i + 1) ++ drop k old) (let s : at + i + 1 ≡ at + (i + 1) = omega arith in s)

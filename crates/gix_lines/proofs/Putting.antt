-- Bytes that are put behind others, and bytes that are written.
use Rattle.std.proofs.Common.{◌≡◌, ℕ, List, [], ◌++◌, Option, Result, Ok, Err, OnOk, IfErr, inr, sym, ap, subst, ◌∙◌, append_assoc, append-nil, length, take}
use Rattle.std.proofs.lemmas.List.{take_at}
use Rattle.std.specs.Io.KnownBytes.{Appends}
use Rattle.std.proofs.KnownBytes.{Appends-nil, Appends-trans}
use Rattle.gix_lines.specs.declared.Error.{Error}
use Rattle.gix_lines.specs.Output.{IsCut, Grows, Puts, put, broken_off, WritesLines}

-- the writer failed within more bytes
pub breaks_within : (a c : Option (List ℕ)) (bytes rest : List ℕ) (e : Error) → IsCut a c bytes e → IsCut a c (bytes ++ rest) e
breaks_within a c bytes rest e h = (h.0, (h.1.0, h.1.1 ++ rest, ap (λ w. w ++ rest) h.1.2 ∙ append_assoc h.1.0 h.1.1 rest, h.1.3))

-- the writer failed behind bytes that it took
pub breaks_behind : (a b c : Option (List ℕ)) (taken bytes : List ℕ) (e : Error) → Appends a b taken → IsCut b c bytes e → IsCut a c (taken ++ bytes) e
breaks_behind a b c taken bytes e k h =
    (h.0, (taken ++ h.1.0, h.1.1, ap (λ w. taken ++ w) h.1.2 ∙ sym (append_assoc taken h.1.0 h.1.1), Appends-trans a b c taken h.1.0 k h.1.3))

-- nothing was put
pub puts_nothing : (a : Option (List ℕ)) (waiting : List ℕ) → Grows a waiting a waiting []
puts_nothing a waiting = ([], Appends-nil a, append-nil waiting)

pub puts_failed : {a c : Option (List ℕ)} {waiting bytes waits : List ℕ} {result : Result (Unit {0}) Error} (e : Error) (all : List ℕ) → result ≡ Err e → all ≡ waiting ++ bytes → IsCut a c all e → Puts a waiting bytes result c waits
puts_failed {a} {c} {waiting} {bytes} {waits} e all is whole h = subst (λ (r : Result (Unit {0}) Error). Puts a waiting bytes r c waits) (sym is) (broken_off (subst (λ w. IsCut a c w e) whole h))

-- bytes were put, and then more
pub puts_more : {a b c : Option (List ℕ)} {x y z p q : List ℕ} {result : Result (Unit {0}) Error} → Puts a x p (Ok tt) b y → Puts b y q result c z → Puts a x (p ++ q) result c z
puts_more {a} {b} {c} {x} {y} {z} {p} {q} (put h) k = go k
  where
    whole : x ++ (p ++ q) ≡ h.0 ++ (y ++ q)
    whole = sym (append_assoc x p q) ∙ ap (λ w. w ++ q) h.2 ∙ append_assoc h.0 y q

    go : {result : Result (Unit {0}) Error} → Puts b y q result c z → Puts a x (p ++ q) result c z
    go (put k) = put (h.0 ++ k.0, Appends-trans a b c h.0 k.0 h.1 k.1, whole ∙ ap (λ w. h.0 ++ w) k.2 ∙ sym (append_assoc h.0 k.0 z))
    go (broken_off {e = e} k) = broken_off (subst (λ w. IsCut a c w e) (sym whole) (breaks_behind a b c h.0 (y ++ q) e h.1 k))

-- the first bytes were not put
pub puts_less : {a c : Option (List ℕ)} {x z p : List ℕ} {r result : Result (Unit {0}) Error} {e : Error} (q : List ℕ) → r ≡ Err e → result ≡ Err e → Puts a x p r c z → Puts a x (p ++ q) result c z
puts_less {a} {c} {x} {z} {p} {r} {result} {e} q is same h = subst (λ (r : Result (Unit {0}) Error). Puts a x (p ++ q) r c z) (sym same) (go (subst (λ (r : Result (Unit {0}) Error). Puts a x p r c z) is h))
  where
    go : Puts a x p (Err e) c z → Puts a x (p ++ q) (Err e) c z
    go (broken_off h) = broken_off (subst (λ w. IsCut a c w e) (append_assoc x p q) (breaks_within a c (x ++ p) q e h))

-- what waits in a slice that was changed
pub waits_in : (n len : ℕ) (bytes rest waits : List ℕ) → length bytes ≡ len → take n bytes ≡ waits → take n (take len (bytes ++ rest)) ≡ waits
waits_in n len bytes rest waits many is = ap (take n) (take_at bytes rest len many) ∙ is

-- the same, by another name of the answer
pub puts_as : {a c : Option (List ℕ)} {x z p : List ℕ} {r result : Result (Unit {0}) Error} → r ≡ result → Puts a x p r c z → Puts a x p result c z
puts_as {a} {c} {x} {z} {p} is h = subst (λ (r : Result (Unit {0}) Error). Puts a x p r c z) is h

-- a buffer was written, in which nothing waited before
pub written_behind : {a b : Option (List ℕ)} {x y bytes : List ℕ} (c : Option (List ℕ)) → x ≡ [] → Puts a x bytes (Ok tt) b y → (result : Result (Unit {0}) Error) → OnOk result (Appends b c y) → IfErr result (IsCut b c y) → WritesLines a bytes result c
written_behind {a} {b} {y = y} {bytes = bytes} c none puts = go (subst (λ x. Puts a x bytes (Ok tt) b y) none puts)
  where
    go : Puts a [] bytes (Ok tt) b y → (result : Result (Unit {0}) Error) → OnOk result (Appends b c y) → IfErr result (IsCut b c y) → WritesLines a bytes result c
    go (put h) (Ok done) ok fault = subst (Appends a c) (sym h.2) (Appends-trans a b c h.0 y h.1 ok)
    go (put h) (Err e) ok fault = inr (subst (λ w. IsCut a c w e) (sym h.2) (breaks_behind a b c h.0 y e h.1 fault))

-- not all was put into a buffer in which nothing waited before
pub begun_only : {a c : Option (List ℕ)} {x bytes waits : List ℕ} {result : Result (Unit {0}) Error} {e : Error} → x ≡ [] → result ≡ Err e → Puts a x bytes result c waits → WritesLines a bytes result c
begun_only {a} {c} {x} {bytes} {waits} {result} {e} none same puts = subst (λ (r : Result (Unit {0}) Error). WritesLines a bytes r c) (sym same) (go (subst (λ x. Puts a x bytes (Err e) c waits) none (puts_as same puts)))
  where
    go : Puts a [] bytes (Err e) c waits → WritesLines a bytes (Err e) c
    go (broken_off h) = inr h

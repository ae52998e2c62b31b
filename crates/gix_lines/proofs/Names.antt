-- The names of the entries that a walk went into.
use Rattle.std.proofs.Common.{◌≡◌, ◌+◌, ◌-◌, ◌<◌, ◌≤◌, ℕ, List, [], ◌∷◌, ◌++◌, map, take, drop, length, get_or, Option, Result, refl, sym, ap, subst, ◌∙◌, arith, length-append, length-take-le, append-nil, append_assoc, take-append-drop}
use Rattle.std.proofs.lemmas.Grind.{flat_map-append}
use Rattle.std.proofs.lemmas.List.{drop_more, map-append, take-take, take_at, take_more}
use Rattle.gix_hash.specs.Id.{hex_of}
use Rattle.gix_object.specs.TreeItems.{TreeEntry}
use Rattle.gix_lines.specs.declared.Error.{Error}
use Rattle.gix_lines.specs.declared.walk.Upper.{Upper}
use Rattle.gix_lines.specs.Files.{file_line, six_octal_digits}
use Rattle.gix_lines.specs.Inside.{Above, KeepsNames, above_of, names_above, record_in}
use Rattle.gix_lines.specs.Output.{Puts}
use Rattle.gix_lines.proofs.FirstLines.{take_parts}

abbrev pub names_of : List Upper → List ℕ
names_of xs = names_above (map above_of xs)

joined : (xs ys : List Upper) → names_of (xs ++ ys) ≡ names_of xs ++ names_of ys
joined xs ys = ap names_above (map-append above_of xs ys) ∙ flat_map-append (λ (u : Above). u.name ++ 47 ∷ []) (map above_of xs) (map above_of ys)

pub one_name : (xs : List Upper) (i : ℕ) (d : Upper) → i < length xs → names_of (take (i + 1) xs) ≡ names_of (take i xs) ++ ((get_or xs i d).name.now ++ 47 ∷ [])
one_name xs i d few = ap names_of (take_more xs i d few) ∙ joined (take i xs) (get_or xs i d ∷ []) ∙ ap (λ w. names_of (take i xs) ++ w) (append-nil ((get_or xs i d).name.now ++ 47 ∷ []))

pub all_names : (xs : List Upper) (i : ℕ) (d : Upper) → i < length xs → names_of (take i xs) ++ (((get_or xs i d).name.now ++ 47 ∷ []) ++ names_of (drop (i + 1) xs)) ≡ names_of xs
all_names xs i d few = sym (joined (take i xs) (get_or xs i d ∷ drop (i + 1) xs)) ∙ ap (λ ys. names_of (take i xs ++ ys)) (sym (drop_more xs i d few)) ∙ ap names_of (take-append-drop i xs)

-- the names of some trees, and of those below them
pub names_behind : (xs : List Upper) (joined level : ℕ) → joined ≤ level → names_of (take joined xs) ++ names_of (take (level - joined) (drop joined xs)) ≡ names_of (take level xs)
names_behind xs j level few =
    let parts : j + (level - j) ≡ level = omega (arith, few) in
    sym (joined (take j xs) (take (level - j) (drop j xs))) ∙ ap names_of (sym (take_parts j (level - j) xs) ∙ ap (λ n. take n xs) parts)

-- a path without its last name
pub record IsShorter (xs : List Upper) (before : ℕ) (path : List ℕ) (end : ℕ) (name : List ℕ) : Type 0 where
  pub long : length name + 1 ≤ end
  pub keeps : KeepsNames xs before before path (end - length name - 1)

pub shorter : (xs : List Upper) (before level joined end : ℕ) (path : List ℕ) (u : Upper) → KeepsNames xs level joined path end → before + 1 ≡ level → before < joined → u ≡ get_or xs before u → IsShorter xs before path end u.name.now
shorter xs before level joined end path u keeps is deep at =
    let front = names_of (take before xs) in
    let all : joined ≡ before + 1 = omega (arith, keeps.few, is, deep) in
    let whole : take end path ≡ front ++ (u.name.now ++ 47 ∷ []) = keeps.names ∙ ap (λ n. names_of (take n xs)) all ∙ one_name xs before u (omega (arith, keeps.within, is)) ∙ ap (λ v. front ++ (v.name.now ++ 47 ∷ [])) (sym at) in
    let many : end ≡ length front + (length u.name.now + 1) = sym (length-take-le end path keeps.fits) ∙ ap length whole ∙ length-append front (u.name.now ++ 47 ∷ []) ∙ ap (λ n. length front + n) (length-append u.name.now (47 ∷ [])) in
    let short : end - length u.name.now - 1 ≡ length front = omega (arith, many) in
    record {
      long = omega (arith, many);
      keeps = record {
        within = omega (arith, keeps.within, is);
        few = omega arith;
        fits = omega (arith, keeps.fits);
        names = ap (λ n. take n path) short ∙ sym (take-take (length front) end path (omega (arith, many))) ∙ ap (take (length front)) whole ∙ take_at front (u.name.now ++ 47 ∷ []) (length front) refl;
      };
    }

-- the parts of a line, as they are put
abbrev pub parts_of : (ending : ℕ) → List Above → TreeEntry → List ℕ
parts_of ending above e = (six_octal_digits e.mode ++ 32 ∷ []) ++ ((hex_of e.id ++ 32 ∷ []) ++ (names_above above ++ (e.name ++ ending ∷ [])))

pub line_put : {a c : Option (List ℕ)} {x z : List ℕ} {result : Result (Unit {0}) Error} (ending : ℕ) (above : List Above) (e : TreeEntry) → Puts a x (parts_of ending above e) result c z → Puts a x (file_line ending (record_in above e)) result c z
line_put {a} {c} {x} {z} {result} ending above e h = subst (λ w. Puts a x w result c z) (whole (six_octal_digits e.mode) (hex_of e.id) (names_above above)) h
  where
    whole : (mode id names : List ℕ) → (mode ++ 32 ∷ []) ++ ((id ++ 32 ∷ []) ++ (names ++ (e.name ++ ending ∷ []))) ≡ mode ++ 32 ∷ (id ++ 32 ∷ ((names ++ e.name) ++ ending ∷ []))
    whole mode id names = simp append_assoc

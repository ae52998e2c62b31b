-- What a writer of JSON has written with each piece that it was given.
use Rattle.std.proofs.Common.{ℕ, ◌≡◌, ◌≢◌, List, [], ◌∷◌, ◌++◌, append_assoc, sym, subst, ap, ◌∙◌}
use Rattle.std.specs.List.{All, flat_map}
use Rattle.std.proofs.lemmas.Grind.{flat_map-append}
use Rattle.std.proofs.lemmas.List.{append-nil}
use Rattle.std.proofs.lemmas.List.Elements.{All-append, All-cons, All-head, All-nil, All-tail}
use Rattle.gix_output.specs.Json.{ReadsBack, json_of}
use Rattle.gix_output.specs.Lines.{AreJsonOf, HasWritten, HasLines, WritesMore}
use Rattle.gix_output.specs.declared.json.Shape.{Shape}
use Rattle.gix_output.specs.declared.json_lines.JsonLines.{JsonLines}

abbrev pub Without : ℕ → List ℕ → Type 0
Without end line = All (λ b. b ≢ end) line

with_end : ℕ → List (List ℕ) → List ℕ
with_end end lines = flat_map (λ line. line ++ end ∷ []) lines

cut_more : (end : ℕ) (bytes : List ℕ) (lines : List (List ℕ)) (rest part : List ℕ) → HasLines end bytes lines rest → Without end part
    → HasLines end (bytes ++ part) lines (rest ++ part)
unfolding with_end
cut_more end bytes lines rest part cut within = record {
  whole = ap (λ s. s ++ part) cut.whole ∙ append_assoc (with_end end lines) rest part;
  ends_once =
      All-cons (Without end) (rest ++ part) lines
      (All-append (λ b. b ≢ end) rest part (All-head (Without end) rest lines cut.ends_once) within)
      (All-tail (Without end) rest lines cut.ends_once);
}

cut_ended : (end : ℕ) (bytes : List ℕ) (lines : List (List ℕ)) (rest : List ℕ) → HasLines end bytes lines rest
    → HasLines end (bytes ++ end ∷ []) (lines ++ rest ∷ []) []
unfolding with_end
cut_ended end bytes lines rest cut = record {
  whole =
      ap (λ s. s ++ end ∷ []) cut.whole
      ∙ append_assoc (with_end end lines) rest (end ∷ [])
      ∙ sym (append-nil (with_end end lines ++ (rest ++ end ∷ [])))
      ∙ ap (λ s. s ++ []) (sym added);
  ends_once =
      All-cons (Without end) [] (lines ++ rest ∷ []) (All-nil (λ b. b ≢ end))
      (All-append (Without end) lines (rest ∷ []) (All-tail (Without end) rest lines cut.ends_once)
      (All-cons (Without end) rest [] (All-head (Without end) rest lines cut.ends_once) (All-nil (Without end))));
}
  where
    added : with_end end (lines ++ rest ∷ []) ≡ with_end end lines ++ (rest ++ end ∷ [])
    added = flat_map-append (λ line. line ++ end ∷ []) lines (rest ∷ []) ∙ ap (λ s. with_end end lines ++ s) (append-nil (rest ++ end ∷ []))

json_more : (shape : Shape) (lines : List (List ℕ)) (line text : List ℕ) → AreJsonOf shape lines text → ReadsBack shape line
    → AreJsonOf shape (lines ++ line ∷ []) (text ++ (json_of shape line ++ 10 ∷ []))
json_more shape lines line text (whole, read) reads = (
  ap (λ s. s ++ next line) whole ∙ added,
  All-append (ReadsBack shape) lines (line ∷ []) read (All-cons (ReadsBack shape) line [] reads (All-nil (ReadsBack shape))),
)
  where
    next : List ℕ → List ℕ
    next line = json_of shape line ++ 10 ∷ []

    added : flat_map next lines ++ next line ≡ flat_map next (lines ++ line ∷ [])
    added = sym (flat_map-append next lines (line ∷ []) ∙ ap (λ s. flat_map next lines ++ s) (append-nil (next line)))

pub nothing_yet : {W : Type 0} (w : JsonLines W) → WritesMore w w [] []
nothing_yet w given written has =
    subst (λ text. HasWritten w (given ++ []) text) (sym (append-nil written)) (subst (λ bytes. HasWritten w bytes written) (sym (append-nil given)) has)

-- the same lines, of a writer that keeps this of the next one
moved : {W : Type 0} (old new : JsonLines W) → new.shape ≡ old.shape → new.end ≡ old.end → (given written : List ℕ) (lines : List (List ℕ)) (rest : List ℕ)
    → new.line.items ≡ rest → HasLines old.end given lines rest → AreJsonOf old.shape lines written → HasWritten new given written
moved old new shape_stays end_stays given written lines rest kept cut are = (
  lines,
  subst (λ end. HasLines end given lines new.line.items) (sym end_stays) (subst (λ (line : List ℕ). HasLines old.end given lines line) (sym kept) cut),
  subst (λ shape. AreJsonOf shape lines written) (sym shape_stays) are,
)

module _ {W : Type 0} (first old new : JsonLines W) (shape_stays : new.shape ≡ old.shape) (end_stays : new.end ≡ old.end) where
  pub line_ends : (front more part : List ℕ) → WritesMore first old front more → Without old.end part → ReadsBack old.shape (old.line.items ++ part)
      → new.line.items ≡ [] → WritesMore first new (front ++ (part ++ old.end ∷ [])) (more ++ (json_of old.shape (old.line.items ++ part) ++ 10 ∷ []))
  line_ends front more part so_far within reads empty given written has =
      let (lines, cut, are) = so_far given written has in
      let line = old.line.items ++ part in
      let end = old.end ∷ [] in
      let text = json_of old.shape line ++ 10 ∷ [] in
      let joined = append_assoc (given ++ front) part end ∙ append_assoc given front (part ++ end) in
      let ended = cut_ended old.end (given ++ front ++ part) lines line (cut_more old.end (given ++ front) lines old.line.items part cut within) in
      moved old new shape_stays end_stays (given ++ (front ++ (part ++ end))) (written ++ (more ++ text)) (lines ++ line ∷ []) [] empty
      (subst (λ bytes. HasLines old.end bytes (lines ++ line ∷ []) []) joined ended)
      (subst (λ s. AreJsonOf old.shape (lines ++ line ∷ []) s) (append_assoc written more text) (json_more old.shape lines line (written ++ more) are reads))

  pub rest_kept : (front more part : List ℕ) → WritesMore first old front more → Without old.end part
      → new.line.items ≡ old.line.items ++ part → WritesMore first new (front ++ part) more
  rest_kept front more part so_far within kept given written has =
      let (lines, cut, are) = so_far given written has in
      let longer = cut_more old.end (given ++ front) lines old.line.items part cut within in
      moved old new shape_stays end_stays (given ++ (front ++ part)) (written ++ more) lines (old.line.items ++ part) kept
      (subst (λ bytes. HasLines old.end bytes lines (old.line.items ++ part)) (append_assoc given front part) longer) are

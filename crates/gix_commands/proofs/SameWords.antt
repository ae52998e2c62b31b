-- What words ask for is what the statement says that they ask for.
use Rattle.std.proofs.Common.{arith, int_le, ◌<◌, ◌≤◌, ◌≡◌, ◌≢◌, ◌⊎◌, ◌+◌, ◌==◌, ◌||◌, ◌&&◌, nat_lt, nat_le, length, ℕ, ℤ, pos, List, [], ◌∷◌, ◌++◌, Bool, true, false, cond, Option, Some, None, Result, Ok, Err, codes, bytes_eq, refl, sym, ap, subst, ◌∙◌, inl}
use Rattle.std.proofs.Common.{inr, option_map, replicate, ◌-◌, eqb-true, ltb-true, leb-true}
use Rattle.std.specs.List.{list_all}
use Rattle.std.specs.Option.{option_map}
use Rattle.gix_commands.proofs.Common.{false≢true, ObjectId, HexError, id_from_hex, Fault, Order, Simple, Topo, Request, Commits, Files, Ahead, Contained, Containing, Bases, Ranked, Ids, begins_with_caret, begins_with_sign, without_caret, is_shown, with_id, with_word, ids_from, number_in, order_named, listed_of, chosen_of, since_of, by_first_parents, in_order_of, ended_files_of, file_of, files_by, files_from, files_of, limited_files_of, ahead_from, ahead_of, asked, several_among, several_from, several_of, request_named, request_of, recent_of, by_cutoff, IsLimit, IsNumber, Spells, AreTips, digits_in, Asked, Shown, chosen_from, commits_in, plain_of, page_choice}
use Rattle.std.proofs.lemmas.Slice.Eq.{bytes_eq-Decides}
use Rattle.gix_records.specs.Decimal.{digits_behind}
use Rattle.gix_revwalk.specs.declared.CommitTimeOrder.TheVariants as order
use Rattle.gix_revwalk.specs.declared.Parents.TheVariants as mode
use Rattle.gix_simple.specs.declared.Sorting.TheVariants as sorting
use Rattle.gix_topo.specs.declared.Sorting.TheVariants as topo
use Rattle.gix_statement.specs.WholeStatement as page
use Rattle.gix_statement.specs.WholeStatement.{Chooses}
use Rattle.gix_words.specs.Words.{WordReader, changed_by, changed_by_value, either_of, ended_of, first_value, formatted_of, formed_of, limited_of, merges_of, named_of, number_option_of, valued_of, value_option_of, option_of, skipped_of, timed_of, titled_of, until_of}
use Rattle.std.proofs.Math.Seq.{take-append_seam}
use Rattle.gix_words.specs.declared.format.Format.{Format}
use Rattle.gix_words.specs.Formats.{format_bytes, format_of, packed}
use Rattle.gix_statement.specs.Formats.{is_format}
use Rattle.gix_words.specs.declared.fault.Fault.TheVariants as fault
use Rattle.gix_words.specs.declared.words.Merges.{Merges}
use Rattle.gix_words.specs.declared.words.Merges.TheVariants as merges
use Rattle.gix_commands.specs.Chosen.{kept_of, kept_until, page_form, page_line}
use Rattle.gix_commands.proofs.SameNumbers.{decimal_digits, hex_spelled}

-- which faults words may have
abbrev pub IsOfWords : Fault → Type 0
IsOfWords fault.Usage = Unit {0}
IsOfWords (fault.Id n) = Unit {0}
IsOfWords e = ⊥

abbrev pub OfWords : Result Request Fault → Type 0
OfWords (Ok request) = Unit {0}
OfWords (Err e) = IsOfWords e

-- what is so of a word that is a name, and of any other, is so by whether it is
by_name : {R : Type 0} (P : List ℕ → R → Type 0) (word name : List ℕ) {named other : R} → P name named → P word other → P word (cond (bytes_eq word name) named other)
by_name {R} P word name {named} {other} h k = go (bytes_eq word name) refl
  where
    go : (t : Bool) → bytes_eq word name ≡ t → P word (cond t named other)
    go true e = subst (λ w. P w named) (sym ((bytes_eq-Decides word name).0 e)) h
    go false e = k

-- the name of an order
abbrev pub IsNameOf : List ℕ → Order → Type 0
IsNameOf name (Simple m sorting.BreadthFirst) = name ≡ codes "breadth"
IsNameOf name (Simple m (sorting.ByCommitTime order.NewestFirst)) = name ≡ codes "newest"
IsNameOf name (Simple m (sorting.ByCommitTime order.OldestFirst)) = name ≡ codes "oldest"
IsNameOf name (Simple m (sorting.ByCommitTimeCutoff order.NewestFirst seconds)) = name ≡ codes "newest"
IsNameOf name (Simple m (sorting.ByCommitTimeCutoff order.OldestFirst seconds)) = name ≡ codes "oldest"
IsNameOf name (Topo m topo.TopoOrder) = name ≡ codes "topo"
IsNameOf name (Topo m topo.DateOrder) = name ≡ codes "date"

-- the words of a cutoff
abbrev pub IsCutoff : List (List ℕ) → ℤ → Type 0
IsCutoff option seconds = (number : List ℕ) × (n : ℕ) × IsNumber 10 10 number n × (seconds ≡ pos n) × (option ≡ codes "--since" ∷ number ∷ [])

-- the words of an order's option
abbrev pub IsOptionOf : List (List ℕ) → Order → Type 0
IsOptionOf option (Simple mode.All sorting.BreadthFirst) = option ≡ []
IsOptionOf option (Simple mode.First sorting.BreadthFirst) = option ≡ codes "--first-parent" ∷ []
IsOptionOf option (Simple mode.All (sorting.ByCommitTime order)) = option ≡ []
IsOptionOf option (Simple mode.All (sorting.ByCommitTimeCutoff order seconds)) = IsCutoff option seconds
IsOptionOf option (Simple mode.First (sorting.ByCommitTime order)) = ⊥
IsOptionOf option (Simple mode.First (sorting.ByCommitTimeCutoff order seconds)) = ⊥
IsOptionOf option (Topo mode.All by) = option ≡ []
IsOptionOf option (Topo mode.First by) = option ≡ codes "--first-parent" ∷ []

-- what is so of the order that a name and an option choose
abbrev IsChosenWith : List ℕ → List (List ℕ) → Option Order → Type 0
IsChosenWith name option None = Unit {0}
IsChosenWith name option (Some by) = IsNameOf name by × IsOptionOf option by

abbrev IsChosenBy : List ℕ → Option Order → Type 0
IsChosenBy name = IsChosenWith name []

first_chosen : (name : List ℕ) (by : Order) → IsNameOf name by → IsChosenWith name (codes "--first-parent" ∷ []) (by_first_parents by)
first_chosen name (Simple m sorting.BreadthFirst) named = (named, refl)
first_chosen name (Simple m (sorting.ByCommitTime order)) named = tt
first_chosen name (Simple m (sorting.ByCommitTimeCutoff order seconds)) named = tt
first_chosen name (Topo m topo.TopoOrder) named = (named, refl)
first_chosen name (Topo m topo.DateOrder) named = (named, refl)

since_chosen : (name number : List ℕ) (n : ℕ) → IsNumber 10 10 number n → (by : Order) → IsNameOf name by → IsOptionOf [] by → IsChosenWith name (codes "--since" ∷ number ∷ []) (by_cutoff (pos n) by)
since_chosen name number n is (Simple m sorting.BreadthFirst) named plain = tt
since_chosen name number n is (Simple mode.All (sorting.ByCommitTime order.NewestFirst)) named plain = (named, (number, n, is, refl, refl))
since_chosen name number n is (Simple mode.All (sorting.ByCommitTime order.OldestFirst)) named plain = (named, (number, n, is, refl, refl))
since_chosen name number n is (Simple mode.First (sorting.ByCommitTime order)) named plain = absurd plain
since_chosen name number n is (Simple m (sorting.ByCommitTimeCutoff order seconds)) named plain = tt
since_chosen name number n is (Topo m by) named plain = tt

order_is : (name : List ℕ) → IsChosenBy name (order_named name)
order_is name = first (bytes_eq name (codes "breadth")) refl
  where
    is : (word : List ℕ) → bytes_eq name word ≡ true → name ≡ word
    is word e = (bytes_eq-Decides name word).0 e

    fifth : (t : Bool) → bytes_eq name (codes "date") ≡ t → IsChosenBy name (cond t (Some (Topo mode.All topo.DateOrder)) None)
    fifth true e = (is (codes "date") e, refl)
    fifth false e = tt

    fourth : (t : Bool) → bytes_eq name (codes "topo") ≡ t → IsChosenBy name (cond t (Some (Topo mode.All topo.TopoOrder)) (cond (bytes_eq name (codes "date")) (Some (Topo mode.All topo.DateOrder)) None))
    fourth true e = (is (codes "topo") e, refl)
    fourth false e = fifth (bytes_eq name (codes "date")) refl

    third : (t : Bool) → bytes_eq name (codes "oldest") ≡ t → IsChosenBy name (cond t (Some (Simple mode.All (sorting.ByCommitTime order.OldestFirst))) (cond (bytes_eq name (codes "topo")) (Some (Topo mode.All topo.TopoOrder)) (cond (bytes_eq name (codes "date")) (Some (Topo mode.All topo.DateOrder)) None)))
    third true e = (is (codes "oldest") e, refl)
    third false e = fourth (bytes_eq name (codes "topo")) refl

    second : (t : Bool) → bytes_eq name (codes "newest") ≡ t
        → IsChosenBy name (cond t (Some (Simple mode.All (sorting.ByCommitTime order.NewestFirst))) (cond (bytes_eq name (codes "oldest")) (Some (Simple mode.All (sorting.ByCommitTime order.OldestFirst))) (cond (bytes_eq name (codes "topo")) (Some (Topo mode.All topo.TopoOrder)) (cond (bytes_eq name (codes "date")) (Some (Topo mode.All topo.DateOrder)) None))))
    second true e = (is (codes "newest") e, refl)
    second false e = third (bytes_eq name (codes "oldest")) refl

    first : (t : Bool) → bytes_eq name (codes "breadth") ≡ t
        → IsChosenBy name (cond t (Some (Simple mode.All sorting.BreadthFirst)) (cond (bytes_eq name (codes "newest")) (Some (Simple mode.All (sorting.ByCommitTime order.NewestFirst))) (cond (bytes_eq name (codes "oldest")) (Some (Simple mode.All (sorting.ByCommitTime order.OldestFirst))) (cond (bytes_eq name (codes "topo")) (Some (Topo mode.All topo.TopoOrder)) (cond (bytes_eq name (codes "date")) (Some (Topo mode.All topo.DateOrder)) None)))))
    first true e = (is (codes "breadth") e, refl)
    first false e = second (bytes_eq name (codes "newest")) refl

-- what is so of the ids that words spell
abbrev AreIdsOf : List (List ℕ) → Result Ids Fault → Type 0
AreIdsOf words (Err e) = IsOfWords e
AreIdsOf words (Ok ids) = AreTips words ids.0 ids.1

one_word : (word : List ℕ) (words : List (List ℕ)) (n : ℕ) (rest : Result Ids Fault) → AreIdsOf words rest → AreIdsOf (word ∷ words) (with_word (begins_with_caret word) n (id_from_hex (without_caret word)) rest)
one_word word words n (Err e) h = go (id_from_hex (without_caret word))
  where
    go : (r : Result ObjectId HexError) → AreIdsOf (word ∷ words) (with_word (begins_with_caret word) n r (Err e))
    go (Ok i) = h
    go (Err why) = tt
one_word [] words n (Ok ids) h = go (id_from_hex []) refl
  where
    go : (r : Result ObjectId HexError) → id_from_hex [] ≡ r → AreIdsOf ([] ∷ words) (with_word false n r (Ok ids))
    go (Ok i) e = inl (i, ids.0, refl, hex_spelled [] i e, h)
    go (Err why) e = tt
one_word (b ∷ word) words n (Ok ids) h = caret (b == 94) refl
  where
    go : (t : Bool) (text : List ℕ) → ((i : ObjectId) → Spells (digits_in i) text i → AreIdsOf ((b ∷ word) ∷ words) (Ok (with_id t i ids))) → (r : Result ObjectId HexError) → id_from_hex text ≡ r → AreIdsOf ((b ∷ word) ∷ words) (with_word t n r (Ok ids))
    go t text with (Ok i) e = with i (hex_spelled text i e)
    go t text with (Err why) e = tt

    caret : (t : Bool) → (b == 94) ≡ t → AreIdsOf ((b ∷ word) ∷ words) (with_word t n (id_from_hex (cond t word (b ∷ word))) (Ok ids))
    caret true e = go true word (λ i s. inr (i, ids.1, refl, word, ap (λ c. c ∷ word) (eqb-true b 94 e), s, h)) (id_from_hex word) refl
    caret false e = go false (b ∷ word) (λ i s. inl (i, ids.0, refl, s, h)) (id_from_hex (b ∷ word)) refl

ids_are : (n : ℕ) (words : List (List ℕ)) → AreIdsOf words (ids_from n words)
ids_are n [] = (refl, refl)
ids_are n (word ∷ words) = one_word word words n (ids_from (n + 1) words) (ids_are (n + 1) words)

-- without a tip each word begins with a caret
all_hidden : (words : List (List ℕ)) (tips hidden : List ObjectId) → AreTips words tips hidden → tips ≡ [] → list_all begins_with_caret words ≡ true
all_hidden [] tips hidden h e = refl
all_hidden (word ∷ words) tips hidden (inl (i, rest, is, s, h)) e = let no : [] ≡ i ∷ rest = sym e ∙ is in cc
all_hidden (word ∷ words) tips hidden (inr (i, rest, is, id, begins, s, h)) e = ap (λ w. begins_with_caret w && list_all begins_with_caret words) begins ∙ all_hidden words tips rest h e

pub is_number : (most : ℕ) (text : List ℕ) (n : ℕ) → number_in most text ≡ Some n → IsNumber 10 most text n
is_number most text n e = go (nat_lt 0 (length text)) (nat_le (length text) most) refl refl e
  where
    go : (s t : Bool) → nat_lt 0 (length text) ≡ s → nat_le (length text) most ≡ t → cond (s && t) (digits_behind 0 text) None ≡ Some n → IsNumber 10 most text n
    go true true some few e = let d = decimal_digits text 0 n e in (ltb-true 0 (length text) some, leb-true (length text) most few, d.0, d.1)
    go true false some few e = cc
    go false t some few e = cc

-- the option that chooses the byte behind an entry
abbrev pub IsEndedBy : List (List ℕ) → ℕ → Type 0
IsEndedBy option ending = ((option ≡ []) × (ending ≡ 10)) ⊎ ((option ≡ codes "-z" ∷ []) × (ending ≡ 0))

-- what the words of a request are
abbrev pub AreWordsOf : List (List ℕ) → Result Request Fault → Type 0
AreWordsOf words (Err e) = IsOfWords e
AreWordsOf words (Ok (Commits by shown tips hidden)) =
    (name : List ℕ) × (option rest : List (List ℕ)) × (words ≡ name ∷ (option ++ rest)) × IsNameOf name by × IsOptionOf option by
    × (place : ℕ) × Chooses tips hidden place rest (page_choice shown) × (tips ≢ [])
AreWordsOf words (Ok (Files shown tree)) =
    (bound option : List (List ℕ)) × (text : List ℕ) × IsLimit bound shown.limit × IsEndedBy option shown.ending
    × (words ≡ codes "files" ∷ (bound ++ (option ++ text ∷ []))) × Spells (digits_in tree) text tree
AreWordsOf words (Ok (Ahead one other)) = (a b : List ℕ) × (words ≡ codes "ahead" ∷ a ∷ b ∷ []) × Spells (digits_in one) a one × Spells (digits_in other) b other
AreWordsOf words (Ok (Contained tip ids)) = (rest : List (List ℕ)) × (words ≡ codes "contains" ∷ rest) × AreTips rest (tip ∷ ids) [] × (ids ≢ [])
AreWordsOf words (Ok (Containing target tips)) = (rest : List (List ℕ)) × (words ≡ codes "containing" ∷ rest) × AreTips rest (target ∷ tips) [] × (tips ≢ [])
AreWordsOf words (Ok (Bases one others)) = (rest : List (List ℕ)) × (words ≡ codes "merge-base" ∷ rest) × AreTips rest (one ∷ others) [] × (others ≢ [])

-- what words choose, from a place on: nothing that has its place before
record IsChosen (lowest : ℕ) (words : List (List ℕ)) (a : Asked) : Type 0 where
  place : ℕ
  chooses : Chooses a.tips a.hidden place words (page_choice a.shown)
  late : lowest ≤ place
  some : a.tips ≢ []
  ever : 0 < lowest → a.shown.until ≡ None
  all : 1 < lowest → a.shown.merges ≡ merges.Any

abbrev AreChosen : ℕ → List (List ℕ) → Result Asked Fault → Type 0
AreChosen lowest words (Err e) = IsOfWords e
AreChosen lowest words (Ok a) = IsChosen lowest words a

-- a reader of words
abbrev Reads : ℕ → WordReader → Type 0
Reads lowest read = (n : ℕ) (words : List (List ℕ)) → AreChosen lowest words (read n words)

-- the bytes of a format
bytes_packed : (text : List ℕ) → length text ≤ 128 → format_bytes (packed text) ≡ text
unfolding packed
bytes_packed text short = take-append_seam text (replicate (128 - length text) 0)

-- what is chosen, by the bytes of its format
abbrev with_bytes : page.Choice → List ℕ → page.Choice
with_bytes choice format = record choice { line = record choice.line { format = format } }

plain_reads : Reads 9 plain_of
plain_reads n words = go (list_all begins_with_caret words) refl
  where
    from : (r : Result Ids Fault) → list_all begins_with_caret words ≡ false → AreIdsOf words r → AreChosen 9 words (chosen_from r)
    from (Err e) some h = h
    from (Ok ids) some h = record {
      place = 9;
      chooses = page.everything h;
      late = omega arith;
      some = λ e. false≢true (sym some ∙ all_hidden words ids.0 ids.1 h e);
      ever = λ k. refl;
      all = λ k. refl;
    }

    go : (t : Bool) → list_all begins_with_caret words ≡ t → AreChosen 9 words (cond t (Err fault.Usage) (chosen_from (ids_from n words)))
    go true e = tt
    go false e = from (ids_from n words) e (ids_are n words)

-- an option of a place, before words that choose by options of higher places
module _ (place : ℕ) where
  higher : (read : WordReader) → Reads (place + 1) read → Reads place read
  higher read reads n words = go (read n words) (reads n words)
    where
      go : (r : Result Asked Fault) → AreChosen (place + 1) words r → AreChosen place words r
      go (Err e) h = h
      go (Ok a) h = record { place = h.place; chooses = h.chooses; late = omega (arith, h.late); some = h.some; ever = λ k. h.ever (omega arith); all = λ k. h.all (omega (arith, k)) }

  -- what such an option, and a word behind it where it has one, changes, before words whose options are of a place at least
  abbrev AddsBefore : (least : ℕ) → List (List ℕ) → (Shown → Shown) → Type 0
  AddsBefore least option change = (words : List (List ℕ)) (a : Asked) → IsChosen least words a → IsChosen place (option ++ words) (record a { shown = change a.shown })

  abbrev Adds : List (List ℕ) → (Shown → Shown) → Type 0
  Adds = AddsBefore (place + 1)

  -- an option of a late place chooses nothing by the time or the parents of a commit
  late_adds : 1 < place → (option : List (List ℕ)) (change : Shown → Shown) → ((shown : Shown) → (change shown).until ≡ shown.until) → ((shown : Shown) → (change shown).merges ≡ shown.merges)
      → ((words : List (List ℕ)) (a : Asked) (p : ℕ) → place < p → Chooses a.tips a.hidden p words (page_choice a.shown) → Chooses a.tips a.hidden place (option ++ words) (page_choice (change a.shown)))
      → Adds option change
  late_adds late option change ever all rule words a h = record {
    place = place;
    chooses = rule words a h.place (omega (arith, h.late)) h.chooses;
    late = omega arith;
    some = h.some;
    ever = λ k. ever a.shown ∙ h.ever (omega arith);
    all = λ k. all a.shown ∙ h.all (omega (arith, late));
  }

  changed_are : (least : ℕ) (option : List (List ℕ)) (change : Shown → Shown) → AddsBefore least option change → (words : List (List ℕ)) (r : Result Asked Fault) → AreChosen least words r → AreChosen place (option ++ words) (changed_by change r)
  changed_are least option change adds words (Err e) h = h
  changed_are least option change adds words (Ok a) h = adds words a h

  module _ (name : List ℕ) where
    option_reads : (change : Shown → Shown) (next other : WordReader) → Adds (name ∷ []) change → Reads (place + 1) next → Reads place other → Reads place (option_of name change next other)
    option_reads change next other adds reads others n [] = others n []
    option_reads change next other adds reads others n (option ∷ words) =
        by_name (λ w o. AreChosen place (w ∷ words) (either_of change next other n (w ∷ words) o)) option name
        (changed_are (place + 1) (name ∷ []) change adds words (next (n + 1) words) (reads (n + 1) words)) (others n (option ∷ words))

    value_option_reads : {X : Type 0} (least : ℕ) (read : List ℕ → Option X) (change : X → Shown → Shown) (next other : WordReader) → ((word : List ℕ) (x : X) → read word ≡ Some x → AddsBefore least (name ∷ word ∷ []) (change x))
        → Reads least next → Reads place other → Reads place (value_option_of name read change next other)
    value_option_reads least read change next other adds reads others n [] = others n []
    value_option_reads {X} least read change next other adds reads others n (option ∷ words) =
        by_name (λ w o. AreChosen place (w ∷ words) (valued_of read change next other n (w ∷ words) o)) option name (behind words) (others n (option ∷ words))
      where
        behind : (words : List (List ℕ)) → AreChosen place (name ∷ words) (changed_by_value change next n (first_value read words))
        behind [] = tt
        behind (word ∷ rest) = go (read word) refl
          where
            go : (o : Option X) → read word ≡ o → AreChosen place (name ∷ word ∷ rest) (changed_by_value change next n (option_map (λ x. (x, rest)) o))
            go None e = tt
            go (Some x) e = changed_are least (name ∷ word ∷ []) (change x) (adds word x e) rest (next (n + 2) rest) (reads (n + 2) rest)

    number_option_reads : (digits : ℕ) (change : ℕ → Shown → Shown) (next : WordReader) → ((number : List ℕ) (m : ℕ) → IsNumber 10 digits number m → Adds (name ∷ number ∷ []) (change m))
        → Reads (place + 1) next → Reads place (number_option_of name digits change next)
    number_option_reads digits change next adds reads =
        value_option_reads (place + 1) (number_in digits) change next next (λ number m e. adds number m (is_number digits number m e)) reads (higher next reads)

ended_reads : Reads 8 ended_of
unfolding ended_of
ended_reads = option_reads 8 (codes "-z") _ plain_of plain_of (late_adds 8 (omega arith) (codes "-z" ∷ []) _ (λ shown. refl) (λ shown. refl) (λ words a p late chooses. page.zero_ended late chooses)) plain_reads (higher 8 plain_of plain_reads)

titled_reads : Reads 7 titled_of
unfolding titled_of
titled_reads = option_reads 7 (codes "--oneline") _ ended_of ended_of (late_adds 7 (omega arith) (codes "--oneline" ∷ []) _ (λ shown. refl) (λ shown. refl) (λ words a p late chooses. subst (λ f. Chooses a.tips a.hidden 7 (codes "--oneline" ∷ words) (with_bytes (page_choice a.shown) f)) (sym (bytes_packed (codes " %s") (omega arith))) (page.with_subject late chooses))) ended_reads (higher 7 ended_of ended_reads)

named_reads : Reads 6 named_of
unfolding named_of
named_reads = option_reads 6 (codes "--parents") _ titled_of titled_of (late_adds 6 (omega arith) (codes "--parents" ∷ []) _ (λ shown. refl) (λ shown. refl) (λ words a p late chooses. page.with_parents late chooses)) titled_reads (higher 6 titled_of titled_reads)

timed_reads : Reads 5 timed_of
unfolding timed_of
timed_reads = option_reads 5 (codes "--timestamp") _ named_of named_of (late_adds 5 (omega arith) (codes "--timestamp" ∷ []) _ (λ shown. refl) (λ shown. refl) (λ words a p late chooses. page.with_time late chooses)) named_reads (higher 5 named_of named_reads)

formatted_reads : Reads 5 formatted_of
unfolding formatted_of
formatted_reads = value_option_reads 5 (codes "--format") 8 format_of _ ended_of timed_of adds ended_reads timed_reads
  where
    is_allowed : (text : List ℕ) (format : Format) → format_of text ≡ Some format → (format_bytes format ≡ text) × (is_format 0 text ≡ true) × (length text ≤ 128)
    is_allowed text format e = go (is_format 0 text) (nat_le (length text) 128) refl refl e
      where
        go : (s t : Bool) → is_format 0 text ≡ s → nat_le (length text) 128 ≡ t → cond (s && t) (Some (packed text)) None ≡ Some format → (format_bytes format ≡ text) × (is_format 0 text ≡ true) × (length text ≤ 128)
        go true true is short e =
            let few : length text ≤ 128 = leb-true (length text) 128 short in
            let same : packed text ≡ format = cc in
            (ap format_bytes (sym same) ∙ bytes_packed text few, is, few)
        go true false is short e = cc
        go false t is short e = cc

    without_id : page.Choice → page.Choice
    without_id choice = record choice { line = record choice.line { has_id = false } }

    adds : (text : List ℕ) (format : Format) → format_of text ≡ Some format
        → AddsBefore 5 8 (codes "--format" ∷ text ∷ []) (λ shown. record shown { line = record shown.line { id = false; format = format } })
    adds text format e words a h =
        let allowed = is_allowed text format e in
        record {
          place = 5;
          chooses = subst (λ f. Chooses a.tips a.hidden 5 (codes "--format" ∷ text ∷ words) (with_bytes (without_id (page_choice a.shown)) f)) (sym allowed.0) (page.with_format allowed.1 allowed.2 (omega (arith, h.late)) h.chooses);
          late = omega arith;
          some = h.some;
          ever = λ k. h.ever (omega arith);
          all = λ k. h.all (omega arith);
        }

formed_reads : Reads 4 formed_of
unfolding formed_of
formed_reads =
    option_reads 4 (codes "--count") _ formatted_of _ (late_adds 4 (omega arith) (codes "--count" ∷ []) _ (λ shown. refl) (λ shown. refl) (λ words a p late chooses. page.counted late chooses)) formatted_reads
    (option_reads 4 (codes "--reverse") _ formatted_of formatted_of (late_adds 4 (omega arith) (codes "--reverse" ∷ []) _ (λ shown. refl) (λ shown. refl) (λ words a p late chooses. page.reversed late chooses)) formatted_reads (higher 4 formatted_of formatted_reads))

limited_reads : Reads 3 limited_of
unfolding limited_of
limited_reads = number_option_reads 3 (codes "-n") 9 _ formed_of (λ number m is. late_adds 3 (omega arith) (codes "-n" ∷ number ∷ []) _ (λ shown. refl) (λ shown. refl) (λ words a p late chooses. page.at_most m is late chooses)) formed_reads

skipped_reads : Reads 2 skipped_of
unfolding skipped_of
skipped_reads = number_option_reads 2 (codes "--skip") 9 _ limited_of (λ number m is. late_adds 2 (omega arith) (codes "--skip" ∷ number ∷ []) _ (λ shown. refl) (λ shown. refl) (λ words a p late chooses. page.skip m is late chooses)) limited_reads

merges_reads : Reads 1 merges_of
unfolding merges_of
merges_reads = option_reads 1 (codes "--merges") _ skipped_of _ only skipped_reads (option_reads 1 (codes "--no-merges") _ skipped_of skipped_of none skipped_reads (higher 1 skipped_of skipped_reads))
  where
    kept_by : Shown → (ℕ → Bool) → Option ℤ → Merges → page.Choice
    kept_by shown test ever all = record { keeps = λ parents time. test parents && kept_until ever time (kept_of all parents true); skip = shown.skip; limit = shown.limit; form = page_form shown.form; line = page_line shown.line }

    kept_so : Shown → (ℕ → Bool) → Option ℤ → page.Choice
    kept_so shown test ever = record { keeps = λ parents time. kept_until ever time (test parents && true); skip = shown.skip; limit = shown.limit; form = page_form shown.form; line = page_line shown.line }

    same : (shown : Shown) (test : ℕ → Bool) → shown.until ≡ None → shown.merges ≡ merges.Any → kept_by shown test shown.until shown.merges ≡ kept_so shown test shown.until
    same shown test ever all = (λ k. kept_by shown test (ever k) (all k)) ∙ sym (λ k. kept_so shown test (ever k))

    only : Adds 1 (codes "--merges" ∷ []) (λ shown. record shown { merges = merges.Only })
    only words a h = record {
      place = 1;
      chooses = subst (Chooses a.tips a.hidden 1 (codes "--merges" ∷ words)) (same a.shown (λ parents. nat_lt 1 parents) (h.ever (omega arith)) (h.all (omega arith))) (page.merges (omega (arith, h.late)) h.chooses);
      late = omega arith;
      some = h.some;
      ever = λ k. h.ever (omega arith);
      all = λ k. absurd (omega (arith, k));
    }

    none : Adds 1 (codes "--no-merges" ∷ []) (λ shown. record shown { merges = merges.No })
    none words a h = record {
      place = 1;
      chooses = subst (Chooses a.tips a.hidden 1 (codes "--no-merges" ∷ words)) (same a.shown (λ parents. nat_le parents 1) (h.ever (omega arith)) (h.all (omega arith))) (page.no_merges (omega (arith, h.late)) h.chooses);
      late = omega arith;
      some = h.some;
      ever = λ k. h.ever (omega arith);
      all = λ k. absurd (omega (arith, k));
    }

until_reads : Reads 0 until_of
unfolding until_of
until_reads = number_option_reads 0 (codes "--until") 10 _ merges_of adds merges_reads
  where
    kept_by : Shown → ℕ → Option ℤ → page.Choice
    kept_by shown seconds ever = record { keeps = λ parents time. int_le time (pos seconds) && kept_until ever time (kept_of shown.merges parents true); skip = shown.skip; limit = shown.limit; form = page_form shown.form; line = page_line shown.line }

    adds : (number : List ℕ) (seconds : ℕ) → IsNumber 10 10 number seconds → Adds 0 (codes "--until" ∷ number ∷ []) (λ shown. record shown { until = Some (pos seconds) })
    adds number seconds is words a h = record {
      place = 0;
      chooses = subst (Chooses a.tips a.hidden 0 (codes "--until" ∷ number ∷ words)) (λ k. kept_by a.shown seconds (h.ever (omega arith) k)) (page.until seconds is (omega (arith, h.late)) h.chooses);
      late = omega arith;
      some = h.some;
      ever = λ k. absurd (omega (arith, k));
      all = λ k. absurd (omega (arith, k));
    }

-- what is so of words behind a name and an option
module _ (name : List ℕ) (option : List (List ℕ)) where
  abbrev AreWordsBehind : List (List ℕ) → Result Request Fault → Type 0
  AreWordsBehind words = AreWordsOf (name ∷ (option ++ words))

  listed_are : (by : Order) (n : ℕ) (words : List (List ℕ)) → IsNameOf name by → IsOptionOf option by → AreWordsBehind words (listed_of by n words)
  listed_are by n words named chosen = go (until_of n words) (until_reads n words)
    where
      go : (r : Result Asked Fault) → AreChosen 0 words r → AreWordsBehind words (commits_in by r)
      go (Err e) h = h
      go (Ok a) h = (name, option, words, refl, named, chosen, h.place, h.chooses, h.some)

  chosen_are : (o : Option Order) (n : ℕ) (words : List (List ℕ)) → IsChosenWith name option o → AreWordsBehind words (chosen_of o n words)
  chosen_are (Some by) n words h = listed_are by n words h.0 h.1
  chosen_are None n words h = tt

since_are : (name : List ℕ) (by : Order) (words : List (List ℕ)) → IsNameOf name by → IsOptionOf [] by → AreWordsOf (name ∷ codes "--since" ∷ words) (since_of by words)
since_are name by [] named plain = tt
since_are name by (number ∷ words) named plain = from (number_in 10 number) refl
  where
    from : (seconds : Option ℕ) → number_in 10 number ≡ seconds → AreWordsOf (name ∷ codes "--since" ∷ number ∷ words) (recent_of by seconds words)
    from (Some n) e = chosen_are name (codes "--since" ∷ number ∷ []) (by_cutoff (pos n) by) 4 words (since_chosen name number n (is_number 10 number n e) by named plain)
    from None e = tt

in_order_are : (name : List ℕ) (by : Order) (words : List (List ℕ)) → IsNameOf name by → IsOptionOf [] by → AreWordsOf (name ∷ words) (in_order_of by words)
in_order_are name by [] named plain = listed_are name [] by 2 [] named plain
in_order_are name by (option ∷ words) named plain = first (bytes_eq option (codes "--first-parent")) refl
  where
    second : (t : Bool) → bytes_eq option (codes "--since") ≡ t → AreWordsOf (name ∷ option ∷ words) (cond t (since_of by words) (listed_of by 2 (option ∷ words)))
    second true e = subst (λ word. AreWordsOf (name ∷ word ∷ words) (since_of by words)) (sym ((bytes_eq-Decides option (codes "--since")).0 e)) (since_are name by words named plain)
    second false e = listed_are name [] by 2 (option ∷ words) named plain

    first : (t : Bool) → bytes_eq option (codes "--first-parent") ≡ t
        → AreWordsOf (name ∷ option ∷ words) (cond t (chosen_of (by_first_parents by) 3 words) (cond (bytes_eq option (codes "--since")) (since_of by words) (listed_of by 2 (option ∷ words))))
    first true e =
        subst (λ word. AreWordsOf (name ∷ word ∷ words) (chosen_of (by_first_parents by) 3 words)) (sym ((bytes_eq-Decides option (codes "--first-parent")).0 e))
        (chosen_are name (codes "--first-parent" ∷ []) (by_first_parents by) 3 words (first_chosen name by named))
    first false e = second (bytes_eq option (codes "--since")) refl

-- the words of a tree behind a limit
module _ (limit : Option ℕ) (bound : List (List ℕ)) (within : IsLimit bound limit) where
  abbrev AreFiles : List (List ℕ) → Result Request Fault → Type 0
  AreFiles words = AreWordsOf (codes "files" ∷ (bound ++ words))

  file_is : (option : List (List ℕ)) (ending n : ℕ) (text : List ℕ) → IsEndedBy option ending → AreFiles (option ++ text ∷ []) (file_of (record { limit = limit; ending = ending }) n text)
  file_is option ending n text ends = go (begins_with_sign text)
    where
      from : (r : Result ObjectId HexError) → id_from_hex text ≡ r → AreFiles (option ++ text ∷ []) (files_from (record { limit = limit; ending = ending }) n r)
      from (Ok i) e = (bound, option, text, within, ends, refl, hex_spelled text i e)
      from (Err why) e = tt

      go : (t : Bool) → AreFiles (option ++ text ∷ []) (cond t (Err fault.Usage) (files_from (record { limit = limit; ending = ending }) n (id_from_hex text)))
      go true = tt
      go false = from (id_from_hex text) refl

  ended_files_are : (n : ℕ) (rest : List (List ℕ)) → AreFiles rest (ended_files_of limit n rest)
  ended_files_are n [] = tt
  ended_files_are n (text ∷ []) = file_is [] 10 n text (inl (refl, refl))
  ended_files_are n (option ∷ text ∷ []) = go (bytes_eq option (codes "-z")) refl
    where
      go : (t : Bool) → bytes_eq option (codes "-z") ≡ t → AreFiles (option ∷ text ∷ []) (cond t (file_of (record { limit = limit; ending = 0 }) (n + 1) text) (Err fault.Usage))
      go true e = file_is (option ∷ []) 0 (n + 1) text (inr (ap (λ w. w ∷ []) ((bytes_eq-Decides option (codes "-z")).0 e), refl))
      go false e = tt
  ended_files_are n (option ∷ text ∷ next ∷ rest) = tt

files_are : (rest : List (List ℕ)) → AreWordsOf (codes "files" ∷ rest) (files_of rest)
files_are [] = tt
files_are (option ∷ rest) = go (bytes_eq option (codes "-n")) refl
  where
    by : (number : List ℕ) (words : List (List ℕ)) (o : Option ℕ) → number_in 9 number ≡ o → AreWordsOf (codes "files" ∷ codes "-n" ∷ number ∷ words) (files_by o words)
    by number words (Some n) e = ended_files_are (Some n) (codes "-n" ∷ number ∷ []) (number, refl, is_number 9 number n e) 4 words
    by number words None e = tt

    limited : (words : List (List ℕ)) → AreWordsOf (codes "files" ∷ codes "-n" ∷ words) (limited_files_of words)
    limited [] = tt
    limited (number ∷ words) = by number words (number_in 9 number) refl

    go : (t : Bool) → bytes_eq option (codes "-n") ≡ t → AreWordsOf (codes "files" ∷ option ∷ rest) (cond t (limited_files_of rest) (ended_files_of None 2 (option ∷ rest)))
    go true e = subst (λ w. AreWordsOf (codes "files" ∷ w ∷ rest) (limited_files_of rest)) (sym ((bytes_eq-Decides option (codes "-n")).0 e)) (limited rest)
    go false e = ended_files_are None [] refl 2 (option ∷ rest)

ahead_are : (rest : List (List ℕ)) → AreWordsOf (codes "ahead" ∷ rest) (ahead_of rest)
ahead_are [] = tt
ahead_are (a ∷ []) = tt
ahead_are (a ∷ b ∷ next ∷ rest) = tt
ahead_are (a ∷ b ∷ []) = go (begins_with_sign a || begins_with_sign b)
  where
    from : (r s : Result ObjectId HexError) → id_from_hex a ≡ r → id_from_hex b ≡ s → AreWordsOf (codes "ahead" ∷ a ∷ b ∷ []) (ahead_from r s)
    from (Ok i) (Ok j) e f = (a, b, refl, hex_spelled a i e, hex_spelled b j f)
    from (Ok i) (Err why) e f = tt
    from (Err why) s e f = tt

    go : (t : Bool) → AreWordsOf (codes "ahead" ∷ a ∷ b ∷ []) (cond t (Err fault.Usage) (ahead_from (id_from_hex a) (id_from_hex b)))
    go true = tt
    go false = from (id_from_hex a) (id_from_hex b) refl refl

-- where no word begins with a caret nothing is hidden
none_hidden : (words : List (List ℕ)) (tips hidden : List ObjectId) → AreTips words tips hidden → list_all is_shown words ≡ true → hidden ≡ []
none_hidden [] tips hidden h e = h.1
none_hidden (word ∷ words) tips hidden (inl (i, rest, is, s, h)) e = none_hidden words rest hidden h (behind (is_shown word) (list_all is_shown words) e)
  where
    behind : (a b : Bool) → (a && b) ≡ true → b ≡ true
    behind true b e = e
    behind false b e = absurd (false≢true e)
none_hidden (word ∷ words) tips hidden (inr (i, rest, is, id, begins, s, h)) e = absurd (false≢true (sym (ap (λ w. is_shown w && list_all is_shown words) begins) ∙ e))

-- a second word spells a second id
some_behind : (word next : List ℕ) (words : List (List ℕ)) (tip : ObjectId) (ids : List ObjectId) → AreTips (word ∷ next ∷ words) (tip ∷ ids) [] → ids ≢ []
some_behind word next words tip ids (inl (i, rest, is, s, (inl (j, more, is_more, t, h)))) e = cc
some_behind word next words tip ids (inl (i, rest, is, s, (inr (j, more, none, id, begins, t, h)))) e = cc
some_behind word next words tip ids (inr (j, more, none, id, begins, s, h)) e = cc

-- what is so of ids that are asked about
abbrev AreSeveral : List (List ℕ) → Result Ranked Fault → Type 0
AreSeveral words (Err e) = IsOfWords e
AreSeveral words (Ok ids) = AreTips words (ids.0 ∷ ids.1) [] × (ids.1 ≢ [])

several_are : (rest : List (List ℕ)) → AreSeveral rest (several_of rest)
several_are [] = tt
several_are (word ∷ []) = tt
several_are (word ∷ next ∷ rest) = go (list_all is_shown (word ∷ next ∷ rest)) refl
  where
    among : (tips hidden : List ObjectId) → AreTips (word ∷ next ∷ rest) tips hidden → hidden ≡ [] → AreSeveral (word ∷ next ∷ rest) (several_among tips)
    among [] hidden h e = tt
    among (tip ∷ ids) hidden h e =
        let k : AreTips (word ∷ next ∷ rest) (tip ∷ ids) [] = subst (AreTips (word ∷ next ∷ rest) (tip ∷ ids)) e h in
        (k, some_behind word next rest tip ids k)

    from : (r : Result Ids Fault) → list_all is_shown (word ∷ next ∷ rest) ≡ true → AreIdsOf (word ∷ next ∷ rest) r → AreSeveral (word ∷ next ∷ rest) (several_from r)
    from (Err e) all h = h
    from (Ok ids) all h = among ids.0 ids.1 h (none_hidden (word ∷ next ∷ rest) ids.0 ids.1 h all)

    go : (t : Bool) → list_all is_shown (word ∷ next ∷ rest) ≡ t → AreSeveral (word ∷ next ∷ rest) (cond t (several_from (ids_from 2 (word ∷ next ∷ rest))) (Err fault.Usage))
    go true e = from (ids_from 2 (word ∷ next ∷ rest)) e (ids_are 2 (word ∷ next ∷ rest))
    go false e = tt

asked_are : (words rest : List (List ℕ)) (asks : ObjectId → List ObjectId → Request) → ((i : ObjectId) (ids : List ObjectId) → AreTips rest (i ∷ ids) [] → ids ≢ [] → AreWordsOf words (Ok (asks i ids)))
    → (r : Result Ranked Fault) → AreSeveral rest r → AreWordsOf words (asked asks r)
asked_are words rest asks each (Ok ids) h = each ids.0 ids.1 h.0 h.1
asked_are words rest asks each (Err e) h = h

contained_are : (rest : List (List ℕ)) → AreWordsOf (codes "contains" ∷ rest) (asked Contained (several_of rest))
contained_are rest = asked_are (codes "contains" ∷ rest) rest Contained (λ i ids are some. (rest, refl, are, some)) (several_of rest) (several_are rest)

containing_are : (rest : List (List ℕ)) → AreWordsOf (codes "containing" ∷ rest) (asked Containing (several_of rest))
containing_are rest = asked_are (codes "containing" ∷ rest) rest Containing (λ i ids are some. (rest, refl, are, some)) (several_of rest) (several_are rest)

bases_are : (rest : List (List ℕ)) → AreWordsOf (codes "merge-base" ∷ rest) (asked Bases (several_of rest))
bases_are rest = asked_are (codes "merge-base" ∷ rest) rest Bases (λ i ids are some. (rest, refl, are, some)) (several_of rest) (several_are rest)

named_are : (name : List ℕ) (o : Option Order) (rest : List (List ℕ)) → IsChosenBy name o → AreWordsOf (name ∷ rest) (request_named name o rest)
named_are name (Some by) rest h = in_order_are name by rest h.0 h.1
named_are name None rest h =
    let so : List ℕ → Result Request Fault → Type 0 = λ word. AreWordsOf (word ∷ rest) in
    by_name so name (codes "files") (files_are rest) (by_name so name (codes "ahead") (ahead_are rest) (by_name so name (codes "contains") (contained_are rest)
    (by_name so name (codes "containing") (containing_are rest) (by_name so name (codes "merge-base") (bases_are rest) tt))))

-- words are those of what they ask for
pub are_words : (words : List (List ℕ)) → AreWordsOf words (request_of words)
are_words [] = tt
are_words (name ∷ rest) = named_are name (order_named name) rest (order_is name)

-- and their faults are those of words
pub request_words : (words : List (List ℕ)) → OfWords (request_of words)
request_words words = go (request_of words) (are_words words)
  where
    go : (r : Result Request Fault) → AreWordsOf words r → OfWords r
    go (Ok request) h = tt
    go (Err e) h = h

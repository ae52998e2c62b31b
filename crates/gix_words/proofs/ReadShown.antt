-- What is read of the printed options of a list, and of the ids behind them, is what was printed.
use Rattle.std.proofs.Common.{◌≡◌, ◌≢◌, ◌⊎◌, inl, inr, ◌≤◌, ◌+◌, ◌==◌, ℕ, ℤ, pos, negsuc, List, [], ◌∷◌, ◌++◌, map, Bool, true, false, Option, Some, None, codes, refl, sym, ap, subst, ◌∙◌, arith, eqb-true, append_assoc, if◌then◌else◌}
use Rattle.std.specs.Prelude.{IfSome}
use Rattle.std.proofs.lemmas.Str.{utf8_lossy-IsUtf8}
use Rattle.std.specs.Fmt.{decimal, signed_decimal}
use Rattle.std.specs.List.{AllByRecursion}
use Rattle.std.specs.Option.{option_map}
use Rattle.gix_hash.specs.declared.ObjectId.{ObjectId}
use Rattle.gix_statement.specs.WholeStatement.{says_more}
use Rattle.gix_words.specs.declared.format.Format.{Format}
use Rattle.gix_words.specs.declared.words.Form.{Form}
use Rattle.gix_words.specs.declared.words.Form.TheVariants as form
use Rattle.gix_words.specs.declared.words.Line.{Line}
use Rattle.gix_words.specs.declared.words.Merges.{Merges}
use Rattle.gix_words.specs.declared.words.Merges.TheVariants as merges
use Rattle.gix_words.specs.declared.words.Shown.{Shown}
use Rattle.gix_words.specs.Formats.{format_bytes, format_of, no_format, packed}
use Rattle.gix_words.specs.Printed.{IsId, field_words, where_given, form_words, format_words, id_word, line_words, merges_words, shown_words, skip_words, valued}
use Rattle.gix_words.specs.Words.{Asked, changed_by, ended_of, formatted_of, formed_of, limited_of, merges_of, named_of, number_in, option_of, plain_of, skipped_of, timed_of, titled_of, until_of}
use Rattle.gix_words.specs.Writable.{IsNineDigits, IsEnding, IsWritableLine, IsWritableShown, IsTenDigits}
use Rattle.gix_words.proofs.ReadIds.{id_plain, plain_again}
use Rattle.gix_words.proofs.ReadNumbers.{number_again}
use Rattle.gix_words.proofs.ReadOptions.{IsRead, no_first, later_absent, passed, passed_value, plain_absent, taken, taken_value}

-- the options before each that an order may have, the last first
abbrev pub before_until : List (List ℕ)
before_until = codes "--since" ∷ codes "--first-parent" ∷ []

abbrev before_merges : List (List ℕ)
before_merges = codes "--until" ∷ before_until

abbrev before_skip : List (List ℕ)
before_skip = codes "--no-merges" ∷ codes "--merges" ∷ before_merges

abbrev before_limit : List (List ℕ)
before_limit = codes "--skip" ∷ before_skip

abbrev before_form : List (List ℕ)
before_form = codes "-n" ∷ before_limit

abbrev before_format : List (List ℕ)
before_format = codes "--reverse" ∷ codes "--count" ∷ before_form

abbrev before_time : List (List ℕ)
before_time = codes "--format" ∷ before_format

abbrev before_parents : List (List ℕ)
before_parents = codes "--timestamp" ∷ before_time

abbrev before_title : List (List ℕ)
before_title = codes "--parents" ∷ before_parents

abbrev before_ending : List (List ℕ)
before_ending = codes "--oneline" ∷ before_title

abbrev before_ids : List (List ℕ)
before_ids = codes "-z" ∷ before_ending

-- what an option of which there are two changes
abbrev counted : Shown → Shown
counted shown = record shown { form = form.Count }

abbrev reversed : Shown → Shown
reversed shown = record shown { form = form.Reverse }

abbrev only : Shown → Shown
only shown = record shown { merges = merges.Only }

abbrev without : Shown → Shown
without shown = record shown { merges = merges.No }

-- all lines of this form
abbrev lines_of : Line → Shown
lines_of line = record { until = None; merges = merges.Any; skip = 0; limit = None; form = form.Lines; line = line }

pub number : (n : ℕ) → n ≤ 999999999 → number_in 9 (decimal n) ≡ Some n
number n few = number_again 9 n (omega arith) (omega (arith, few)) (omega (arith, few))

pub time : (n : ℕ) → n ≤ 9999999999 → number_in 10 (decimal n) ≡ Some n
time n few = number_again 10 n (omega arith) (omega (arith, few)) (omega (arith, few))

module _ (tips hidden : List ObjectId) (are_tips : AllByRecursion IsId tips) (are_hidden : AllByRecursion IsId hidden) (some : tips ≢ []) where
  abbrev asked : Shown → Asked
  asked shown = record { shown = shown; tips = tips; hidden = hidden }

  abbrev ids : List (List ℕ)
  ids = map (id_word []) tips ++ map (id_word (codes "^")) hidden

  abbrev plain : Line
  plain = record { id = true; time = false; parents = false; format = no_format; ending = 10 }

  read_ids : IsRead plain_of before_ids ids (asked (lines_of plain))
  read_ids = record { reads = λ n. plain_again n tips hidden are_tips are_hidden some; absent = first tips are_tips some }
    where
      first : (those : List ObjectId) → AllByRecursion IsId those → those ≢ [] → no_first before_ids (map (id_word []) those ++ map (id_word (codes "^")) hidden) ≡ true
      first [] h s = absurd (s refl)
      first (i ∷ those) h s = plain_absent before_ids (id_word [] i) (map (id_word []) those ++ map (id_word (codes "^")) hidden) refl (id_plain i h.0).1

  read_ending : (ending : ℕ) → IsEnding ending → IsRead ended_of before_ending (where_given (ending == 0) (codes "-z") ++ ids) (asked (lines_of (record plain { ending = ending })))
  unfolding ended_of
  read_ending ending (inl e) =
      subst (λ b. IsRead ended_of before_ending (where_given (b == 0) (codes "-z") ++ ids) (asked (lines_of (record plain { ending = b })))) (sym e)
      (record { reads = λ n. passed (codes "-z") _ plain_of plain_of before_ending ids read_ids.absent n ∙ read_ids.reads n; absent = later_absent (codes "-z") before_ending ids read_ids.absent })
  read_ending ending (inr e) =
      subst (λ b. IsRead ended_of before_ending (where_given (b == 0) (codes "-z") ++ ids) (asked (lines_of (record plain { ending = b })))) (sym e)
      (record { reads = λ n. taken (codes "-z") _ plain_of plain_of before_ending ids refl n ∙ ap (changed_by _) (read_ids.reads (n + 1)); absent = refl })

  -- the words behind the options of a line, and what was read of them
  module _ (line : Line) (rest : List (List ℕ)) where
    read_title : IsRead ended_of before_ending rest (asked (lines_of (record line { format = no_format })))
        → (line.format ≡ no_format) ⊎ (line.format ≡ packed (codes " %s"))
        → IsRead titled_of before_title (where_given (says_more (format_bytes line.format)) (codes "--oneline") ++ rest) (asked (lines_of line))
    unfolding titled_of packed
    read_title r (inl e) =
        let at = λ (f : Format). IsRead titled_of before_title (where_given (says_more (format_bytes f)) (codes "--oneline") ++ rest) (asked (lines_of (record line { format = f }))) in
        subst at (sym e) (record { reads = λ n. passed (codes "--oneline") _ ended_of ended_of before_title rest r.absent n ∙ r.reads n; absent = later_absent (codes "--oneline") before_title rest r.absent })
    read_title r (inr e) =
        let at = λ (f : Format). IsRead titled_of before_title (where_given (says_more (format_bytes f)) (codes "--oneline") ++ rest) (asked (lines_of (record line { format = f }))) in
        subst at (sym e) (record { reads = λ n. taken (codes "--oneline") _ ended_of ended_of before_title rest refl n ∙ ap (changed_by _) (r.reads (n + 1)); absent = refl })

    read_parents : (given : Bool) → IsRead titled_of before_title rest (asked (lines_of (record line { parents = false })))
        → IsRead named_of before_parents (where_given given (codes "--parents") ++ rest) (asked (lines_of (record line { parents = given })))
    unfolding named_of
    read_parents false r = record { reads = λ n. passed (codes "--parents") _ titled_of titled_of before_parents rest r.absent n ∙ r.reads n; absent = later_absent (codes "--parents") before_parents rest r.absent }
    read_parents true r = record { reads = λ n. taken (codes "--parents") _ titled_of titled_of before_parents rest refl n ∙ ap (changed_by _) (r.reads (n + 1)); absent = refl }

    read_time : (given : Bool) → IsRead named_of before_parents rest (asked (lines_of (record line { time = false })))
        → IsRead timed_of before_time (where_given given (codes "--timestamp") ++ rest) (asked (lines_of (record line { time = given })))
    unfolding timed_of
    read_time false r = record { reads = λ n. passed (codes "--timestamp") _ named_of named_of before_time rest r.absent n ∙ r.reads n; absent = later_absent (codes "--timestamp") before_time rest r.absent }
    read_time true r = record { reads = λ n. taken (codes "--timestamp") _ named_of named_of before_time rest refl n ∙ ap (changed_by _) (r.reads (n + 1)); absent = refl }

    read_no_format : IsRead timed_of before_time rest (asked (lines_of line)) → IsRead formatted_of before_format rest (asked (lines_of line))
    unfolding formatted_of
    read_no_format r = record { reads = λ n. passed_value (codes "--format") format_of _ ended_of timed_of before_format rest r.absent n ∙ r.reads n; absent = later_absent (codes "--format") before_format rest r.absent }

    read_format : (text : List ℕ) (format : Format) → format_of text ≡ Some format → IsRead ended_of before_ending rest (asked (lines_of line))
        → IsRead formatted_of before_format (codes "--format" ∷ text ∷ rest) (asked (lines_of (record line { id = false; format = format })))
    unfolding formatted_of
    read_format text format is r = record { reads = λ n. taken_value (codes "--format") format_of _ ended_of timed_of before_format rest text format refl is n ∙ ap (changed_by _) (r.reads (n + 2)); absent = refl }

  read_line : (line : Line) → IsWritableLine line → IsEnding line.ending → IsRead formatted_of before_format (line_words line ++ ids) (asked (lines_of line))
  read_line line (inl (id, format)) e =
      let ending = where_given (line.ending == 0) (codes "-z") ++ ids in
      let said = where_given (says_more (format_bytes line.format)) (codes "--oneline") in
      let parents = where_given line.parents (codes "--parents") in
      let time = where_given line.time (codes "--timestamp") in
      let titled = read_title (record line { id = true; time = false; parents = false }) ending (read_ending line.ending e) format in
      let named = read_parents (record line { id = true; time = false }) (said ++ ending) line.parents titled in
      let timed = read_time (record line { id = true }) (parents ++ (said ++ ending)) line.time named in
      let whole = read_no_format (record line { id = true }) (time ++ (parents ++ (said ++ ending))) timed in
      let same : time ++ (parents ++ (said ++ ending)) ≡ (field_words line ++ where_given (line.ending == 0) (codes "-z")) ++ ids = sym (simp append_assoc) in
      subst (λ (l : Line). IsRead formatted_of before_format (line_words l ++ ids) (asked (lines_of l))) (λ k. record line { id = sym id k })
      (subst (λ (words : List (List ℕ)). IsRead formatted_of before_format words (asked (lines_of (record line { id = true })))) same whole)
  read_line line (inr (id, time, parents, text, format)) e =
      let ending = where_given (line.ending == 0) (codes "-z") ++ ids in
      let whole = read_format (record plain { ending = line.ending }) ending (format_bytes line.format) line.format format (read_ending line.ending e) in
      let same : codes "--format" ∷ format_bytes line.format ∷ ending ≡ (format_words line.format ++ where_given (line.ending == 0) (codes "-z")) ++ ids = ap (λ (t : List ℕ). codes "--format" ∷ t ∷ ending) (sym (utf8_lossy-IsUtf8 (format_bytes line.format) text)) in
      let off : IsRead formatted_of before_format ((format_words line.format ++ where_given (line.ending == 0) (codes "-z")) ++ ids) (asked (lines_of (record line { id = false; time = false; parents = false })))
      = subst (λ (words : List (List ℕ)). IsRead formatted_of before_format words (asked (lines_of (record line { id = false; time = false; parents = false })))) same whole in
      subst (λ (l : Line). IsRead formatted_of before_format (line_words l ++ ids) (asked (lines_of l))) (λ k. record line { id = sym id k; time = sym time k; parents = sym parents k }) off

  -- the words behind a further option, and what was read of them
  module _ (shown : Shown) (rest : List (List ℕ)) where
    read_form : (by : Form) → IsRead formatted_of before_format rest (asked (record shown { form = form.Lines })) → IsRead formed_of before_form (form_words by ++ rest) (asked (record shown { form = by }))
    unfolding formed_of
    read_form form.Lines r =
        let later = later_absent (codes "--reverse") (codes "--count" ∷ before_form) rest r.absent in
        record {
          reads = λ n. passed (codes "--count") counted formatted_of (option_of (codes "--reverse") reversed formatted_of formatted_of) before_form rest later n
              ∙ passed (codes "--reverse") reversed formatted_of formatted_of (codes "--count" ∷ before_form) rest r.absent n ∙ r.reads n;
          absent = later_absent (codes "--count") before_form rest later;
        }
    read_form form.Count r = record { reads = λ n. taken (codes "--count") counted formatted_of (option_of (codes "--reverse") reversed formatted_of formatted_of) before_form rest refl n ∙ ap (changed_by counted) (r.reads (n + 1)); absent = refl }
    read_form form.Reverse r =
        record {
          reads = λ n. passed (codes "--count") counted formatted_of (option_of (codes "--reverse") reversed formatted_of formatted_of) before_form (codes "--reverse" ∷ rest) refl n
              ∙ taken (codes "--reverse") reversed formatted_of formatted_of before_form rest refl n ∙ ap (changed_by reversed) (r.reads (n + 1));
          absent = refl;
        }

    read_limit : (limit : Option ℕ) → IfSome limit IsNineDigits → IsRead formed_of before_form rest (asked (record shown { limit = None }))
        → IsRead limited_of before_limit (valued (codes "-n") (option_map decimal limit) ++ rest) (asked (record shown { limit = limit }))
    unfolding limited_of
    read_limit None few r = record { reads = λ n. passed_value (codes "-n") (number_in 9) _ formed_of formed_of before_limit rest r.absent n ∙ r.reads n; absent = later_absent (codes "-n") before_limit rest r.absent }
    read_limit (Some m) few r = record { reads = λ n. taken_value (codes "-n") (number_in 9) _ formed_of formed_of before_limit rest (decimal m) m refl (number m few) n ∙ ap (changed_by _) (r.reads (n + 2)); absent = refl }

    read_skip : (skip : ℕ) → IsNineDigits skip → IsRead limited_of before_limit rest (asked (record shown { skip = 0 }))
        → IsRead skipped_of before_skip (skip_words skip ++ rest) (asked (record shown { skip = skip }))
    unfolding skipped_of
    read_skip skip few r = go (skip == 0) refl
      where
        go : (t : Bool) → (skip == 0) ≡ t → IsRead skipped_of before_skip ((if t then [] else codes "--skip" ∷ decimal skip ∷ []) ++ rest) (asked (record shown { skip = skip }))
        go true e =
            subst (λ (m : ℕ). IsRead skipped_of before_skip rest (asked (record shown { skip = m }))) (sym (eqb-true skip 0 e))
            (record { reads = λ n. passed_value (codes "--skip") (number_in 9) _ limited_of limited_of before_skip rest r.absent n ∙ r.reads n; absent = later_absent (codes "--skip") before_skip rest r.absent })
        go false e = record { reads = λ n. taken_value (codes "--skip") (number_in 9) _ limited_of limited_of before_skip rest (decimal skip) skip refl (number skip few) n ∙ ap (changed_by _) (r.reads (n + 2)); absent = refl }

    read_merges : (by : Merges) → IsRead skipped_of before_skip rest (asked (record shown { merges = merges.Any })) → IsRead merges_of before_merges (merges_words by ++ rest) (asked (record shown { merges = by }))
    unfolding merges_of
    read_merges merges.Any r =
        let later = later_absent (codes "--no-merges") (codes "--merges" ∷ before_merges) rest r.absent in
        record {
          reads = λ n. passed (codes "--merges") only skipped_of (option_of (codes "--no-merges") without skipped_of skipped_of) before_merges rest later n
              ∙ passed (codes "--no-merges") without skipped_of skipped_of (codes "--merges" ∷ before_merges) rest r.absent n ∙ r.reads n;
          absent = later_absent (codes "--merges") before_merges rest later;
        }
    read_merges merges.Only r = record { reads = λ n. taken (codes "--merges") only skipped_of (option_of (codes "--no-merges") without skipped_of skipped_of) before_merges rest refl n ∙ ap (changed_by only) (r.reads (n + 1)); absent = refl }
    read_merges merges.No r =
        record {
          reads = λ n. passed (codes "--merges") only skipped_of (option_of (codes "--no-merges") without skipped_of skipped_of) before_merges (codes "--no-merges" ∷ rest) refl n
              ∙ taken (codes "--no-merges") without skipped_of skipped_of before_merges rest refl n ∙ ap (changed_by without) (r.reads (n + 1));
          absent = refl;
        }

    read_until : (until : Option ℤ) → IfSome until IsTenDigits → IsRead merges_of before_merges rest (asked (record shown { until = None }))
        → IsRead until_of before_until (valued (codes "--until") (option_map signed_decimal until) ++ rest) (asked (record shown { until = until }))
    unfolding until_of
    read_until None few r = record { reads = λ n. passed_value (codes "--until") (number_in 10) _ merges_of merges_of before_until rest r.absent n ∙ r.reads n; absent = later_absent (codes "--until") before_until rest r.absent }
    read_until (Some (pos m)) few r = record { reads = λ n. taken_value (codes "--until") (number_in 10) _ merges_of merges_of before_until rest (decimal m) m refl (time m few) n ∙ ap (changed_by _) (r.reads (n + 2)); absent = refl }
    read_until (Some (negsuc m)) few r = absurd few

  pub read_shown : (shown : Shown) → IsWritableShown shown → IsRead until_of before_until (shown_words shown ++ ids) (asked shown)
  read_shown shown (until, skip, limit, line, ending) =
      let lines = line_words shown.line ++ ids in
      let formed = form_words shown.form ++ lines in
      let limited = valued (codes "-n") (option_map decimal shown.limit) ++ formed in
      let skipped = skip_words shown.skip ++ limited in
      let merged = merges_words shown.merges ++ skipped in
      let r1 = read_form (lines_of shown.line) lines shown.form (read_line shown.line line ending) in
      let r2 = read_limit (record (lines_of shown.line) { form = shown.form }) formed shown.limit limit r1 in
      let r3 = read_skip (record (lines_of shown.line) { form = shown.form; limit = shown.limit }) limited shown.skip skip r2 in
      let r4 = read_merges (record (lines_of shown.line) { form = shown.form; limit = shown.limit; skip = shown.skip }) skipped shown.merges r3 in
      let r5 = read_until (record shown { until = None }) merged shown.until until r4 in
      subst (λ (words : List (List ℕ)). IsRead until_of before_until words (asked shown)) (sym (simp append_assoc)) r5

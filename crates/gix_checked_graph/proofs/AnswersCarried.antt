-- Lines that were written over pages of files that were compared with the commits are right of objects alone.
use Rattle.std.proofs.Common.{◌≡◌, ◌≢◌, ℕ, List, [], Bool, true, false, Option, Some, None, Contains, bytes_eq, Decides, refl, sym, ap, ◌∙◌, inl}
use Rattle.std.proofs.lemmas.Bool.{false≢true}
use Rattle.std.proofs.lemmas.Option.{none-some, same_Some}
use Rattle.std.proofs.lemmas.Slice.Eq.{bytes_eq-Decides}
use Rattle.gix_hash.specs.declared.ObjectId.{ObjectId}
use Rattle.gix_statement.specs.WholeStatement.{Agree, Carries, Clash, IsText, Object, Objects, Row}
use Rattle.gix_commands.proofs.RowsAsTexts.{text_moves}
use Rattle.gix_graph_pages.specs.GraphPages.{Layer, all_rows}
use Rattle.gix_checked_graph.specs.Checked.{AreChecked, CheckedAnswers, HasAllOf}

-- texts that don't differ are one
pub same_list : (xs ys : List ℕ) → (xs ≢ ys → ⊥) → xs ≡ ys
same_list xs ys h = go (bytes_eq xs ys) (bytes_eq-Decides xs ys)
  where
    go : (b : Bool) → Decides b (xs ≡ ys) → xs ≡ ys
    go true d = d.0 refl
    go false d = absurd (h (λ e. false≢true (d.1 e)))

same_object : (a b : Object) → (a ≢ b → ⊥) → a ≡ b
same_object a b h =
    let kinds = same_list a.kind b.kind (λ n. h (λ e. n (ap (λ (o : Object). o.kind) e))) in
    let bytes = same_list a.bytes b.bytes (λ n. h (λ e. n (ap (λ (o : Object). o.bytes) e))) in
    (λ k. record { kind = kinds k; bytes = bytes k })

-- what some have stays
pub stays : (objects some : Objects) → HasAllOf objects some → (i : ObjectId) (o : Object) → some i ≡ Some o → objects i ≡ Some o
stays objects some has i o e = go (objects i) refl
  where
    go : (found : Option Object) → objects i ≡ found → objects i ≡ Some o
    go None n = absurd (has.0 i (λ none. let no : Some o ≡ None = sym e ∙ none in cc) n)
    go (Some b) n = n ∙ ap Some (sym (same_object o b (λ differ. has.1 (i, o, b, e, n, differ))))

module _ (layers : List Layer) (checked objects read : Objects) (are : AreChecked layers checked) (has_read : HasAllOf objects read) (has_checked : HasAllOf objects checked) where
  text_there : (r : Row) → Contains (all_rows layers) r → IsText objects r
  text_there r m = text_moves checked objects r (stays objects checked has_checked r.id) (are.texts r m)

  -- the rows contradict no object that was read
  agree : Agree read (all_rows layers)
  agree = (are.apart, λ r m some. text_moves objects read r (λ o. back r some o (read r.id) refl) (text_there r m))
    where
      back : (r : Row) → read r.id ≢ None → (o : Object) (found : Option Object) → read r.id ≡ found → objects r.id ≡ Some o → read r.id ≡ Some o
      back r some o None e at = absurd (some e)
      back r some o (Some a) e at = e ∙ sym (stays objects read has_read r.id a e) ∙ at

pub checked_answers : Carries → CheckedAnswers
checked_answers carries layers checked read objects pages words lines are had answers has_read has_checked =
    carries read objects (all_rows layers) [] words (Some []) (Some lines) has_read.0 has_read.1
    (λ r m. inl (text_there layers checked objects read are has_read has_checked r m))
    (answers.1 layers are.generation had are.sound (agree layers checked objects read are has_read has_checked))

-- ---- the object of the first if it has one, and else that of the second: these have both, unless two objects have one id

abbrev pub first_of : Option Object → Option Object → Option Object
first_of None other = other
first_of (Some o) other = Some o

abbrev pub joined : Objects → Objects → Objects
joined read checked i = first_of (read i) (checked i)

pub joined_has : (read checked : Objects) → (Clash read checked → ⊥) → HasAllOf (joined read checked) read × HasAllOf (joined read checked) checked
joined_has read checked clash = ((first, λ c. first_same c.0 c.1 c.2 c.3 c.4 c.5), (second, λ c. second_same c.0 c.1 c.2 (read c.0) refl c.3 c.4 c.5))
  where
    first : (i : ObjectId) → read i ≢ None → joined read checked i ≢ None
    first i some e = go (read i) refl e
      where
        go : (o : Option Object) → read i ≡ o → first_of o (checked i) ≡ None → ⊥
        go None at e = some at
        go (Some o) at e = none-some o (sym e)

    first_same : (i : ObjectId) (a b : Object) → read i ≡ Some a → joined read checked i ≡ Some b → a ≢ b → ⊥
    first_same i a b at both differ = differ (same_Some a b (sym (ap (λ o. first_of o (checked i)) at) ∙ both))

    second : (i : ObjectId) → checked i ≢ None → joined read checked i ≢ None
    second i some e = go (read i) e
      where
        go : (o : Option Object) → first_of o (checked i) ≡ None → ⊥
        go None e = some e
        go (Some o) e = none-some o (sym e)

    second_same : (i : ObjectId) (a b : Object) (o : Option Object) → read i ≡ o → checked i ≡ Some a → joined read checked i ≡ Some b → a ≢ b → ⊥
    second_same i a b None nothing at both differ = differ (same_Some a b (sym at ∙ sym (ap (λ o. first_of o (checked i)) nothing) ∙ both))
    second_same i a b (Some o) some at both differ = clash (i, b, a, some ∙ sym (ap (λ o. first_of o (checked i)) some) ∙ both, at, λ e. differ (sym e))

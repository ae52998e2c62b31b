use Rattle.std.proofs.Common.{◌≡◌, ◌==◌, ◌&&◌, bytes_eq, Bool, true, refl, sym, ap, ◌∙◌}
use Rattle.bstr.specs.Owned.{bstring_bytes}
use Rattle.gix_tree.proofs.Common.{is_same, eq_is_same}
use Rattle.gix_tree.proofs.recorder.EntryPartialEq.eq.Goals as goal
use Rattle.gix_tree.proofs.recorder.EntryPartialEq.eq.Goals.{then-eq, else-eq}

-- where the first two tests hold, the third decides
third : (a b c : Bool) → a ≡ true → b ≡ true → c ≡ (a && (b && c))
third a b c p q = rw (p, q) refl

pub returns-then-eq-2-clause-eq : goal.returns-then-eq-2-clause-eq
returns-then-eq-2-clause-eq c = elim c.if-eq.branch [
  | then-eq w ↦
      let mode : (c.args.self.now.mode.value == c.args.other.now.mode.value) ≡ true = sym c.eq.ensures ∙ w.if-eq.true in
      let path : bytes_eq (bstring_bytes c.args.self.now.filepath) (bstring_bytes c.args.other.now.filepath) ≡ true = rw (← w.as_bytes.ensures, ← w.as_bytes-then-eq.ensures) (sym w.eq-then-eq.ensures ∙ sym w.value-is ∙ c.if-eq-2.true) in
      let id : c.eq-then-eq-2.result ≡ is_same c.args.self.now.oid c.args.other.now.oid = c.eq-then-eq-2.ensures ∙ ap (λ f. f c.args.self.now.oid c.args.other.now.oid) eq_is_same in
      id ∙ third _ _ _ mode path
  | else-eq w ↦ cc
]

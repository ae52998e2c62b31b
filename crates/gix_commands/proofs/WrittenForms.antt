-- What is written of a walk that was drawn: lines, their number, or the last line first.
use Rattle.std.proofs.Common.{◌≡◌, ◌≢◌, ℕ, List, [], ◌∷◌, ◌++◌, length, reverse, false, flat_map, Option, Result, Ok, Err, refl, sym, subst, ◌∙◌, arith}
use Rattle.std.specs.Fmt.{digits}
use Rattle.gix_commands.proofs.Common.{Appends, Fault, Info, ObjectId}
use Rattle.gix_words.specs.declared.words.Form.{Form}
use Rattle.gix_words.specs.declared.words.Form.TheVariants as form
use Rattle.gix_commands.specs.Chosen.{Writes}
use Rattle.gix_commands.specs.Output.{AddsBegun, BreaksOff, Held, Takes, WritesBegun, WritesWhole, nothing_held}
use Rattle.gix_commands.proofs.OutputFacts.{lines_begun, lines_written, whole_failed, whole_written}

abbrev number_line : ℕ → List ℕ
number_line n = digits 10 false n ++ 10 ∷ []

module _ {W E : Type 0} (Steps : W → Option (Result Info E) → W → Type 0) (Tells : E → Fault → Type 0) (Has : ObjectId → Type 0) (those : List Info → List ObjectId) (limit : Option ℕ) (line : ObjectId → List ℕ) (by : Form) (walk : W) (old : Option (List ℕ)) where
  abbrev DrawnBy : Form → Result (Unit {0}) Fault → Option (List ℕ) → Held → Type 0
  DrawnBy form = AddsBegun Steps Tells Has those limit line form walk old nothing_held

  abbrev WrittenBy : Form → Result (Unit {0}) Fault → Option (List ℕ) → Type 0
  WrittenBy form = WritesBegun Steps Tells Has those limit line form walk old

  -- lines
  pub lines_out : by ≡ form.Lines → {mid new : Option (List ℕ)} {holds : Held} (answer : Result (Unit {0}) Fault) → DrawnBy by answer mid holds → Appends mid new holds.lines → WrittenBy by answer new
  lines_out is {mid} {new} {holds} answer h k =
      subst (λ (f : Form). WrittenBy f answer new) (sym is) (lines_written Steps Tells Has those limit line walk old nothing_held refl (subst (λ (f : Form). DrawnBy f answer mid holds) is h) k)

  pub lines_cut : by ≡ form.Lines → {mid new : Option (List ℕ)} {holds : Held} {answer result : Result (Unit {0}) Fault} (e : Fault) → DrawnBy by answer mid holds → BreaksOff mid new holds.lines e → result ≡ Err e → WrittenBy by result new
  lines_cut is {mid} {new} {holds} {answer} {result} e h breaks same =
      subst (λ (f : Form). WrittenBy f result new) (sym is) (lines_begun Steps Tells Has those limit line walk old nothing_held refl e (subst (λ (f : Form). DrawnBy f answer mid holds) is h) breaks same)

  -- their number
  no_lines : (by ≡ form.Count) → by ≢ form.Lines
  no_lines is = λ e. cc

  pub number_failed : by ≡ form.Count → {mid : Option (List ℕ)} {holds : Held} {answer result : Result (Unit {0}) Fault} (e : Fault) → DrawnBy by answer mid holds → answer ≡ Err e → result ≡ Err e → WrittenBy by result mid
  number_failed is e h fails same = whole_failed Steps Tells Has those limit line by (no_lines is) walk old nothing_held e h fails same

  pub number_out : by ≡ form.Count → {mid new : Option (List ℕ)} {holds : Held} (answer : Result (Unit {0}) Fault) → answer ≡ Ok tt → DrawnBy by answer mid holds → (number : ℕ) → number ≡ holds.number → (result : Result (Unit {0}) Fault)
      → WritesWhole mid (number_line number) result new → WrittenBy by result new
  number_out is {mid} {new} {holds} answer ok h number same result whole =
      whole_written Steps Tells Has those limit line by (no_lines is) walk old nothing_held (number_line number) (subst (λ (a : Result (Unit {0}) Fault). DrawnBy by a mid holds) ok h) writes result whole
    where
      writes : (ids : List ObjectId) → Takes line by old nothing_held ids mid holds → (full : Option (List ℕ)) → Appends old full (number_line number) → Writes line by (Ok tt) ids old full
      writes ids takes full a =
          let t : Takes line form.Count old nothing_held ids mid holds = subst (λ (f : Form). Takes line f old nothing_held ids mid holds) is takes in
          let many : number ≡ length ids = omega (arith, same, t.1) in
          subst (λ (f : Form). Writes line f (Ok tt) ids old full) (sym is) (subst (λ n. Appends old full (number_line n)) many a)

  -- the last line first
  no_order : (by ≡ form.Reverse) → by ≢ form.Lines
  no_order is = λ e. cc

  pub reverse_failed : by ≡ form.Reverse → {mid : Option (List ℕ)} {holds : Held} {answer result : Result (Unit {0}) Fault} (e : Fault) → DrawnBy by answer mid holds → answer ≡ Err e → result ≡ Err e → WrittenBy by result mid
  reverse_failed is e h fails same = whole_failed Steps Tells Has those limit line by (no_order is) walk old nothing_held e h fails same

  pub reverse_out : by ≡ form.Reverse → {mid new : Option (List ℕ)} {holds : Held} (answer : Result (Unit {0}) Fault) → answer ≡ Ok tt → DrawnBy by answer mid holds → (held : List ObjectId) → held ≡ holds.ids → (result : Result (Unit {0}) Fault)
      → WritesWhole mid (flat_map line (reverse held)) result new → WrittenBy by result new
  reverse_out is {mid} {new} {holds} answer ok h held same result whole =
      whole_written Steps Tells Has those limit line by (no_order is) walk old nothing_held (flat_map line (reverse held)) (subst (λ (a : Result (Unit {0}) Fault). DrawnBy by a mid holds) ok h) writes result whole
    where
      writes : (ids : List ObjectId) → Takes line by old nothing_held ids mid holds → (full : Option (List ℕ)) → Appends old full (flat_map line (reverse held)) → Writes line by (Ok tt) ids old full
      writes ids takes full a =
          let t : Takes line form.Reverse old nothing_held ids mid holds = subst (λ (f : Form). Takes line f old nothing_held ids mid holds) is takes in
          subst (λ (f : Form). Writes line f (Ok tt) ids old full) (sym is) (subst (λ xs. Appends old full (flat_map line (reverse xs))) (same ∙ t.1) a)

-- lines of one name or another
pub by_lines : (line other : ObjectId → List ℕ) → other ≡ line → (ids : List ObjectId) (old : Option (List ℕ)) (result : Result (Unit {0}) Fault) (new : Option (List ℕ)) → WritesWhole old (flat_map other ids) result new → WritesWhole old (flat_map line ids) result new
by_lines line other same ids old result new h = subst (λ (l : ObjectId → List ℕ). WritesWhole old (flat_map l ids) result new) same h

pub none_held : (lines : List ℕ) (ids : List ObjectId) → lines ≡ [] → ids ≡ [] → ◌≡◌ {A = Held} (record { lines = lines; ids = ids; number = 0 }) nothing_held
none_held lines ids a b = λ k. record { lines = a k; ids = b k; number = 0 }

-- what was drawn, by a form that is this one, and beginning with nothing
pub from_drawn : {W E : Type 0} (Steps : W → Option (Result Info E) → W → Type 0) (Tells : E → Fault → Type 0) (Has : ObjectId → Type 0) (those : List Info → List ObjectId) (limit : Option ℕ) (line : ObjectId → List ℕ) (f by : Form) (walk : W) (old : Option (List ℕ)) (held : Held) (answer : Result (Unit {0}) Fault) (mid : Option (List ℕ)) (holds : Held)
    → AddsBegun Steps Tells Has those limit line f walk old held answer mid holds → f ≡ by → held ≡ nothing_held → AddsBegun Steps Tells Has those limit line by walk old nothing_held answer mid holds
from_drawn Steps Tells Has those limit line f by walk old held answer mid holds h named none =
    subst (λ (x : Form). AddsBegun Steps Tells Has those limit line x walk old nothing_held answer mid holds) named (subst (λ (x : Held). AddsBegun Steps Tells Has those limit line f walk old x answer mid holds) none h)

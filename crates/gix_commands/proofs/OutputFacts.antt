-- Lines that are buffered, and lines that were written.
use Rattle.std.proofs.Common.{◌≡◌, ◌≢◌, ◌<◌, ◌+◌, ℕ, zero, suc, flat_map, List, [], ◌∷◌, ◌++◌, length, Option, Some, None, Result, Ok, Err, refl, sym, ap, subst, ◌∙◌, append_assoc, arith, ◌⊎◌, ⊎_elim, inl, inr, append-nil, length-append}
use Rattle.gix_commands.proofs.Common.{Appends, ObjectId, Yields, Info, Fault, Grows, Adds, Ends, EndsBy, WritesAll, finished, cut_short, enough, before}
use Rattle.std.proofs.lemmas.Grind.{flat_map-append}
use Rattle.std.proofs.KnownBytes.{Appends-nil, Appends-trans}
use Rattle.gix_words.specs.declared.fault.Fault.TheVariants as fault
use Rattle.std.specs.Io.KnownBytes.{append_known}
use Rattle.gix_words.specs.declared.words.Form.{Form}
use Rattle.gix_words.specs.declared.words.Form.TheVariants as form
use Rattle.gix_commands.specs.Chosen.{Writes}
use Rattle.gix_commands.specs.Output.{AddsBegun, BreaksOff, Held, StopsWithin, Takes, TakesNone, WritesBegun, WritesWhole, added, broken_off, written, cut, unwritten}
use Rattle.gix_revwalk.specs.Infos.{given}
use Rattle.std.specs.Iterator.{YieldsThen}
use Rattle.gix_commands.specs.Walked.{AsksForMore, Have, failed, unstored}

-- nothing was written
pub grows_waiting : (old : Option (List ℕ)) (waiting waits bytes : List ℕ) → waits ≡ waiting ++ bytes → Grows old waiting old waits bytes
grows_waiting old waiting waits bytes e = ([], Appends-nil old, sym e)

pub grows_more : (a b c : Option (List ℕ)) (x y z p q : List ℕ) → Grows a x b y p → Grows b y c z q → Grows a x c z (p ++ q)
grows_more a b c x y z p q h k = (
  h.0 ++ k.0,
  Appends-trans a b c h.0 k.0 h.1 k.1,
  sym (append_assoc x p q) ∙ ap (λ w. w ++ q) h.2 ∙ append_assoc h.0 y q ∙ ap (λ w. h.0 ++ w) k.2 ∙ sym (append_assoc h.0 k.0 z),
)

-- all that is buffered is written
pub grows_end : (old mid new : Option (List ℕ)) (waits bytes : List ℕ) → Grows old [] mid waits bytes → Appends mid new waits → Appends old new bytes
grows_end old mid new waits bytes h k = subst (Appends old new) (sym h.2) (Appends-trans old mid new h.0 waits h.1 k)

-- what is written, and more
pub appends_behind : (new : Option (List ℕ)) (more : List ℕ) → Appends new (append_known new more) more
appends_behind None more = tt
appends_behind (Some bytes) more = refl

none_before : (some more : List ℕ) → some ++ more ≡ [] → some ≡ []
none_before [] more e = refl
none_before (b ∷ some) more e = cc

-- one more id was added
pub takes_more : (line : ObjectId → List ℕ) (by : Form) (a b c : Option (List ℕ)) (x y z : Held) (ids more : List ObjectId) → Takes line by a x ids b y → Takes line by b y more c z → Takes line by a x (ids ++ more) c z
takes_more line form.Lines a b c x y z ids more h k = subst (Grows a x.lines c z.lines) (sym (flat_map-append line ids more)) (grows_more a b c x.lines y.lines z.lines (flat_map line ids) (flat_map line more) h k)
takes_more line form.Count a b c x y z ids more h k = (k.0 ∙ h.0, omega (arith, h.1, k.1, length-append ids more))
takes_more line form.Reverse a b c x y z ids more h k = (k.0 ∙ h.0, k.1 ∙ ap (λ xs. xs ++ more) h.1 ∙ append_assoc x.ids ids more)

pub takes_nothing : (line : ObjectId → List ℕ) (by : Form) (old : Option (List ℕ)) (held : Held) (ids : List ObjectId) → ids ≡ [] → Takes line by old held ids old held
takes_nothing line form.Lines old held ids none = grows_waiting old held.lines held.lines (flat_map line ids) (sym (ap (λ xs. held.lines ++ flat_map line xs) none ∙ append-nil held.lines))
takes_nothing line form.Count old held ids none = (refl, omega (arith, ap length none))
takes_nothing line form.Reverse old held ids none = (refl, sym (ap (λ xs. held.ids ++ xs) none ∙ append-nil held.ids))

-- no id was added, by a form that stayed
pub same_form : (f by : Form) → f ≡ by → (old : Option (List ℕ)) (held : Held) (new : Option (List ℕ)) (holds : Held) (e : Fault) → TakesNone f old held new holds e → TakesNone by old held new holds e
same_form f by is old held new holds e h = subst (λ (x : Form). TakesNone x old held new holds e) is h

-- of a limit so many are left
abbrev pub IsLimitLeft : (limit : Option ℕ) → ℕ → (left : Option ℕ) → Type 0
IsLimitLeft None n left = left ≡ None
IsLimitLeft (Some most) n left = (k : ℕ) × (left ≡ Some k) × (n + k ≡ most)

fewer : (n k limit : ℕ) → n + k ≡ limit → (k ≡ 0 → ⊥) → n < limit
fewer n zero limit e some = absurd (some refl)
fewer n (suc k) limit e some = omega (arith, e)

all_drawn : (n k limit : ℕ) → n + k ≡ limit → k ≡ 0 → n ≡ limit
all_drawn n k limit e none = omega (arith, e, none)

module _ {W E : Type 0} where
  module _ (Steps : W → Option (Result Info E) → W → Type 0) where
    module _ (Tells : E → Fault → Type 0) (Has : ObjectId → Type 0) (those : List Info → List ObjectId) (limit : Option ℕ) (line : ObjectId → List ℕ) (by : Form) (walk : W) (old : Option (List ℕ)) (held : Held) where
      abbrev pub Begun : Result (Unit {0}) Fault → Option (List ℕ) → Held → Type 0
      Begun = AddsBegun Steps Tells Has those limit line by walk old held

      -- how the walk ended, by what is left to be written
      pub ends_before : (infos : List Info) (left : Option ℕ) {answer : Result (Unit {0}) Fault} → IsLimitLeft limit (length (those infos)) left → left ≢ Some 0 → Ends Steps Tells Has walk infos answer → EndsBy Steps Tells Has those limit walk infos answer
      ends_before infos left {answer} is some ends = go limit is
        where
          go : (limit : Option ℕ) → IsLimitLeft limit (length (those infos)) left → EndsBy Steps Tells Has those limit walk infos answer
          go None is = ends
          go (Some n) (k, e, sum) = before ends (fewer _ k n sum (λ z. some (e ∙ ap Some z)))

      pub ends_enough : (infos : List Info) (left : Option ℕ) (at : W) → IsLimitLeft limit (length (those infos)) left → left ≡ Some 0 → Yields Steps walk (given infos) at → EndsBy Steps Tells Has those limit walk infos (Ok tt)
      ends_enough infos left at is none h = go limit is
        where
          go : (limit : Option ℕ) → IsLimitLeft limit (length (those infos)) left → EndsBy Steps Tells Has those limit walk infos (Ok tt)
          go None is = let no : ◌≡◌ {A = Option ℕ} None (Some 0) = sym is ∙ none in cc
          go (Some n) (k, e, sum) = enough at h (all_drawn _ k n sum (let z : k ≡ 0 = cc in z))

      -- the walk's answer was a fault
      pub adds_failed : (at drawn : W) (infos : List Info) (have : Have Has infos) (left : Option ℕ) (answer : Result Info E) (e : E) (f : Fault) (new : Option (List ℕ)) (holds : Held) → IsLimitLeft limit (length (those infos)) left → left ≢ Some 0
          → Yields Steps walk (given infos) at → Steps at (Some answer) drawn → answer ≡ Err e → Tells e f → Takes line by old held (those infos) new holds → Begun (Err f) new holds
      adds_failed at drawn infos have left answer e f new holds is some h step fails tells takes = added (record {
        infos = infos;
        ends = ends_before infos left is some (failed e f drawn (at, h, subst (λ (a : Result Info E). Steps at (Some a) drawn) fails step) tells);
        have = have;
        takes = takes;
      })

      -- memory ran out for a commit, or it lacks what each has to have
      pub adds_none : (at drawn : W) (infos : List Info) (have : Have Has infos) (left : Option ℕ) (next : Result Info E) (info : Info) (e : Fault) (result : Result (Unit {0}) Fault) (new : Option (List ℕ)) (holds : Held) → IsLimitLeft limit (length (those infos)) left → left ≢ Some 0
          → Yields Steps walk (given infos) at → Steps at (Some next) drawn → next ≡ Ok info → Takes line by old held (those infos) new holds → result ≡ Err e → (e ≡ fault.Memory) ⊎ ((e ≡ fault.Missing info.id) × (Has info.id → ⊥)) → Begun result new holds
      adds_none at drawn infos have left next info e result new holds is some h step gives takes same why = added (record {
        infos = infos;
        ends = ends_before infos left is some (subst (Ends Steps Tells Has walk infos) (sym same) (⊎_elim
            (λ memory. subst (λ (f : Fault). Ends Steps Tells Has walk infos (Err f)) (sym memory) (cut_short info drawn drew))
            (λ (missing, none). subst (λ (f : Fault). Ends Steps Tells Has walk infos (Err f)) (sym missing) (unstored info drawn drew none)) why));
        have = have;
        takes = takes;
      })
        where
          drew : YieldsThen Steps walk (given infos) (Some (Ok info)) drawn
          drew = (at, h, subst (λ (a : Result Info E). Steps at (Some a) drawn) gives step)

      -- a commit couldn't be added
      pub adds_cut : (at drawn : W) (infos : List Info) (have : Have Has infos) (left : Option ℕ) (next : Result Info E) (info : Info) (e : Fault) (result : Result (Unit {0}) Fault) (mid new : Option (List ℕ)) (has holds : Held) → IsLimitLeft limit (length (those infos)) left → left ≢ Some 0
          → Yields Steps walk (given infos) at → Steps at (Some next) drawn → next ≡ Ok info → Takes line by old held (those infos) mid has → result ≡ Err e → TakesNone by mid has new holds e → Begun result new holds
      adds_cut at drawn infos have left next info e result mid new has holds is some h step gives takes same none = go by takes none
        where
          short : Ends Steps Tells Has walk infos (Err fault.Memory)
          short = cut_short info drawn (at, h, subst (λ (a : Result Info E). Steps at (Some a) drawn) gives step)

          go : (by : Form) → Takes line by old held (those infos) mid has → TakesNone by mid has new holds e → AddsBegun Steps Tells Has those limit line by walk old held result new holds
          go form.Lines grows (inl (breaks, empty)) =
              subst (λ (r : Result (Unit {0}) Fault). AddsBegun Steps Tells Has those limit line form.Lines walk old held r new holds) (sym (same ∙ ap (λ f. Err f) breaks.0))
              (broken_off breaks.1.1 refl empty (record {
                infos = infos;
                ends = ends_before infos left is some short;
                have = have;
                takes = (
                  grows.0 ++ breaks.1.0,
                  Appends-trans old mid new grows.0 breaks.1.0 grows.1 breaks.1.3,
                  grows.2 ∙ ap (λ w. grows.0 ++ w) breaks.1.2 ∙ sym (append_assoc grows.0 breaks.1.0 breaks.1.1),
                );
              }))
          go form.Lines grows (inr (memory, more)) = added (record {
            infos = infos;
            ends = ends_before infos left is some (subst (Ends Steps Tells Has walk infos) (sym (same ∙ ap (λ f. Err f) memory)) short);
            have = have;
            takes = subst (Grows old held.lines new holds.lines) (append-nil (flat_map line (those infos))) (grows_more old mid new held.lines has.lines holds.lines (flat_map line (those infos)) [] grows more);
          })
          go form.Count (kept, number) (memory, still, as_many) = added (record {
            infos = infos;
            ends = ends_before infos left is some (subst (Ends Steps Tells Has walk infos) (sym (same ∙ ap (λ f. Err f) memory)) short);
            have = have;
            takes = (still ∙ kept, as_many ∙ number);
          })
          go form.Reverse (kept, ids) (memory, still, as_many) = added (record {
            infos = infos;
            ends = ends_before infos left is some (subst (Ends Steps Tells Has walk infos) (sym (same ∙ ap (λ f. Err f) memory)) short);
            have = have;
            takes = (still ∙ kept, as_many ∙ ids);
          })

      -- the walk ended
      pub adds_all : (at drawn : W) (infos : List Info) (have : Have Has infos) (left : Option ℕ) (new : Option (List ℕ)) (holds : Held) → IsLimitLeft limit (length (those infos)) left → left ≢ Some 0 → Yields Steps walk (given infos) at → Steps at None drawn
          → Takes line by old held (those infos) new holds → Begun (Ok tt) new holds
      adds_all at drawn infos have left new holds is some h step takes = added (record {
        infos = infos;
        ends = ends_before infos left is some (finished drawn (at, h, step));
        have = have;
        takes = takes;
      })

      -- as many were written as were asked for
      pub adds_enough : (at : W) (infos : List Info) (have : Have Has infos) (left : Option ℕ) (new : Option (List ℕ)) (holds : Held) → IsLimitLeft limit (length (those infos)) left → left ≡ Some 0 → Yields Steps walk (given infos) at → Takes line by old held (those infos) new holds → Begun (Ok tt) new holds
      adds_enough at infos have left new holds is none h takes = added (record {
        infos = infos;
        ends = ends_enough infos left at is none h;
        have = have;
        takes = takes;
      })

      -- where the walk stands then
      pub stops_at_end : (at drawn : W) (infos : List Info) (left : Option ℕ) → IsLimitLeft limit (length (those infos)) left → left ≢ Some 0 → Yields Steps walk (given infos) at → Steps at None drawn → StopsWithin Steps those limit walk drawn
      stops_at_end at drawn infos left is some h step = inr (infos, (at, h, step), go limit is)
        where
          go : (limit : Option ℕ) → IsLimitLeft limit (length (those infos)) left → AsksForMore limit (length (those infos))
          go None is = tt
          go (Some n) (k, e, sum) = fewer _ k n sum (λ z. some (e ∙ ap Some z))

      pub stops_enough : (at : W) (infos : List Info) (left : Option ℕ) → IsLimitLeft limit (length (those infos)) left → left ≡ Some 0 → Yields Steps walk (given infos) at → StopsWithin Steps those limit walk at
      stops_enough at infos left is none h = inl (infos, h, go limit is)
        where
          go : (limit : Option ℕ) → IsLimitLeft limit (length (those infos)) left → Some (length (those infos)) ≡ limit
          go None is = let no : ◌≡◌ {A = Option ℕ} None (Some 0) = sym is ∙ none in cc
          go (Some n) (k, e, sum) = ap Some (all_drawn _ k n sum (let z : k ≡ 0 = cc in z))

    module _ (Tells : E → Fault → Type 0) (Has : ObjectId → Type 0) (those : List Info → List ObjectId) (limit : Option ℕ) (line : ObjectId → List ℕ) (walk : W) (old : Option (List ℕ)) (held : Held) (none : held.lines ≡ []) where
      abbrev AddsLines : Result (Unit {0}) Fault → Option (List ℕ) → Held → Type 0
      AddsLines = AddsBegun Steps Tells Has those limit line form.Lines walk old held

      abbrev WritesLines : Result (Unit {0}) Fault → Option (List ℕ) → Type 0
      WritesLines = WritesBegun Steps Tells Has those limit line form.Lines walk old

      -- what was added goes on behind what is written
      added_behind : {mid new : Option (List ℕ)} {holds : Held} (answer : Result (Unit {0}) Fault) (some more : List ℕ) → Adds Steps Tells Has those limit line form.Lines walk old held answer mid holds → holds.lines ≡ some ++ more → Appends mid new some → WritesLines (Err fault.Write) new
      added_behind {mid} {new} {holds} answer some more h whole a =
          let start = Appends-trans old mid new h.takes.0 some h.takes.1 a in
          cut {answer = answer} {full = append_known new more} (h.takes.0 ++ some) more (record {
            infos = h.infos;
            ends = h.ends;
            have = h.have;
            writes = subst (Appends old (append_known new more)) (sym (ap (λ w. w ++ flat_map line (those h.infos)) (sym none) ∙ h.takes.2 ∙ ap (λ w. h.takes.0 ++ w) whole ∙ sym (append_assoc h.takes.0 some more)))
                (Appends-trans old new (append_known new more) (h.takes.0 ++ some) more start (appends_behind new more));
          }) start (appends_behind new more)

      -- what was buffered was written
      pub lines_written : {mid new : Option (List ℕ)} {holds : Held} {answer : Result (Unit {0}) Fault} → AddsLines answer mid holds → Appends mid new holds.lines → WritesLines answer new
      lines_written {mid} {new} {holds} {answer} (added h) k = written (record {
        infos = h.infos;
        ends = h.ends;
        have = h.have;
        writes = grows_end old mid new holds.lines (flat_map line (those h.infos)) (subst (λ (w : List ℕ). Grows old w mid holds.lines (flat_map line (those h.infos))) none h.takes) k;
      })
      lines_written {mid} {new} (broken_off more same empty h) k = added_behind (Err fault.Memory) [] more h refl (subst (Appends mid new) empty k)

      -- the writer failed, and a beginning of what was buffered was written
      pub lines_begun : {mid new : Option (List ℕ)} {holds : Held} {answer result : Result (Unit {0}) Fault} (e : Fault) → AddsLines answer mid holds → BreaksOff mid new holds.lines e → result ≡ Err e → WritesLines result new
      lines_begun {mid} {new} {holds} {answer} {result} e h breaks same = subst (λ (r : Result (Unit {0}) Fault). WritesLines r new) (sym (same ∙ ap (λ f. Err f) breaks.0)) (go h breaks.1.2)
        where
          go : {answer : Result (Unit {0}) Fault} {holds : Held} → AddsLines answer mid holds → holds.lines ≡ breaks.1.0 ++ breaks.1.1 → WritesLines (Err fault.Write) new
          go {answer} (added h) whole = added_behind answer breaks.1.0 breaks.1.1 h whole breaks.1.3
          go (broken_off more same empty h) whole = added_behind (Err fault.Memory) [] more h refl (subst (Appends mid new) (none_before breaks.1.0 breaks.1.1 (sym whole ∙ empty)) breaks.1.3)

    -- a list that is written at once, or whose number is
    module _ (Tells : E → Fault → Type 0) (Has : ObjectId → Type 0) (those : List Info → List ObjectId) (limit : Option ℕ) (line : ObjectId → List ℕ) (by : Form) (other : by ≢ form.Lines) (walk : W) (old : Option (List ℕ)) (held : Held) where
      -- nothing was written before
      still : (by : Form) → by ≢ form.Lines → (ids : List ObjectId) (mid : Option (List ℕ)) (holds : Held) → Takes line by old held ids mid holds → mid ≡ old
      still form.Lines other ids mid holds takes = absurd (other refl)
      still form.Count other ids mid holds takes = takes.0
      still form.Reverse other ids mid holds takes = takes.0

      writes_none : (by : Form) → by ≢ form.Lines → (e : Fault) (ids : List ObjectId) {mid : Option (List ℕ)} → mid ≡ old → Writes line by (Err e) ids old mid
      writes_none form.Lines other e ids is = absurd (other refl)
      writes_none form.Count other e ids is = is
      writes_none form.Reverse other e ids is = is

      -- the walk failed
      pub whole_failed : {mid : Option (List ℕ)} {holds : Held} {answer result : Result (Unit {0}) Fault} (e : Fault) → AddsBegun Steps Tells Has those limit line by walk old held answer mid holds → answer ≡ Err e → result ≡ Err e → WritesBegun Steps Tells Has those limit line by walk old result mid
      whole_failed {mid} {holds} {answer} {result} e (added h) fails same = subst (λ (r : Result (Unit {0}) Fault). WritesBegun Steps Tells Has those limit line by walk old r mid) (sym same) (written (record {
        infos = h.infos;
        ends = subst (EndsBy Steps Tells Has those limit walk h.infos) fails h.ends;
        have = h.have;
        writes = writes_none by other e (those h.infos) (still by other (those h.infos) mid holds h.takes);
      }))
      whole_failed e (broken_off more lines empty h) fails same = absurd (other lines)

      -- the walk ended, and what was asked for was written, or not
      pub whole_written : {mid new : Option (List ℕ)} {holds : Held} (bytes : List ℕ) → AddsBegun Steps Tells Has those limit line by walk old held (Ok tt) mid holds
          → ((ids : List ObjectId) → Takes line by old held ids mid holds → (full : Option (List ℕ)) → Appends old full bytes → Writes line by (Ok tt) ids old full) → (result : Result (Unit {0}) Fault) → WritesWhole mid bytes result new → WritesBegun Steps Tells Has those limit line by walk old result new
      whole_written {mid} {new} {holds} bytes (added h) writes result whole = go result (subst (λ o. WritesWhole o bytes result new) (still by other (those h.infos) mid holds h.takes) whole)
        where
          all : (full : Option (List ℕ)) → Appends old full bytes → WritesAll Steps Tells Has those limit line by walk old (Ok tt) full
          all full a = record { infos = h.infos; ends = h.ends; have = h.have; writes = writes (those h.infos) h.takes full a }

          go : (result : Result (Unit {0}) Fault) → WritesWhole old bytes result new → WritesBegun Steps Tells Has those limit line by walk old result new
          go (Ok done) a = written (all new a)
          go (Err e) (inl (memory, same)) = subst (λ (o : Option (List ℕ)). WritesBegun Steps Tells Has those limit line by walk old (Err e) o) (sym same) (subst (λ (f : Fault). WritesBegun Steps Tells Has those limit line by walk old (Err f) old) (sym memory) unwritten)
          go (Err e) (inr breaks) =
              let full = append_known new breaks.1.1 in
              subst (λ (f : Fault). WritesBegun Steps Tells Has those limit line by walk old (Err f) new) (sym breaks.0)
              (cut breaks.1.0 breaks.1.1 (all full (subst (Appends old full) (sym breaks.1.2) (Appends-trans old new full breaks.1.0 breaks.1.1 breaks.1.3 (appends_behind new breaks.1.1)))) breaks.1.3 (appends_behind new breaks.1.1))

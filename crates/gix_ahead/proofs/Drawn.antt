-- What a walk gives that is drawn to its end.
use Rattle.std.proofs.Common.{◌≡◌, ◌+◌, ◌∷◌, ◌++◌, ℕ, suc, List, [], length, length-append, Bool, true, refl, sym, ap, ◌∙◌}
use Rattle.gix_hash.specs.declared.ObjectId.{ObjectId}
use Rattle.gix_object.specs.Object.{Objects}
use Rattle.gix_commitgraph.specs.Rows.{GraphRow}
use Rattle.gix_simple.specs.declared.Error.{Error as WalkError}
use Rattle.gix_simple.specs.Walk.{SimpleWalk, Next}
use Rattle.gix_ahead.specs.Inside.Walks.{DrawsSoMany, Numbers}
use Rattle.gix_merge_base.specs.Inside.Steps.{StartsFrom}
use Rattle.gix_merge_base.proofs.Starting.{difference, read_whole}
use Rattle.gix_revwalk.specs.declared.Info.{Info}
use Rattle.gix_revwalk.specs.Asking.{AnswersBy}
use Rattle.gix_revwalk.specs.Infos.{given, given_ids}

-- one commit more
pub one_more : (infos : List Info) (info : Info) (n m : ℕ) → n ≡ length infos → m ≡ n + 1 → m ≡ length (infos ++ info ∷ [])
one_more infos info n m is more = more ∙ ap (λ k. k + 1) is ∙ sym (length-append infos (info ∷ []))

length_given : (infos : List Info) → length (given_ids {E = WalkError} (given infos)) ≡ length infos
length_given [] = refl
length_given (info ∷ infos) = ap (λ n. suc n) (length_given infos)

-- the number is that of the commits that the tip reaches and the hidden one doesn't
pub numbers : {F P : Type 0} (objects : F → Objects) (faulty : F → ObjectId → Type 0) (answers : P → ObjectId → Bool → P → Type 0) (store : F) (predicate : P) (accepting : AnswersBy answers predicate (λ i. true))
    (rows : List GraphRow) (hidden tip : ObjectId) (walk : SimpleWalk F P) → StartsFrom objects faulty answers store predicate rows hidden (tip ∷ []) walk → (n : ℕ) → DrawsSoMany (Next objects faulty answers) walk n → Numbers (objects store) rows tip hidden n
numbers objects faulty answers store predicate accepting rows hidden tip walk starts n d = record {
  is_ahead = λ agreeing. let g = difference objects faulty answers store predicate accepting rows hidden (tip ∷ []) walk starts d.infos d.drawn agreeing in record {
    ids = given_ids (given d.infos);
    once = g.once;
    exact = g.exact;
    number = length_given d.infos ∙ sym d.number;
  };
  read = λ agreeing. read_whole objects faulty answers store predicate accepting rows hidden (tip ∷ []) walk starts d.infos d.drawn agreeing (λ e. cc);
}

-- The objects that rows were compared with, gathered into one map.
use Rattle.std.proofs.Common.{◌≡◌, ◌⊎◌, ℕ, List, [], ◌∷◌, Option, Some, None, IfSome, Bool, true, false, cond, Contains, refl, sym, subst, ap, ◌∙◌, inl, inr}
use Rattle.std.specs.Cmp.{Equal-is}
use Rattle.std.specs.FinMap.{get, insert, empty, get-empty, get-insert}
use Rattle.std.proofs.lemmas.List.{get_or_default}
use Rattle.gix_hash.specs.declared.ObjectId.{ObjectId}
use Rattle.gix_hash.specs.Id.{id_cmp, is_same}
use Rattle.gix_hash.proofs.Ids.Membership.{id_total, same_is, same_from, Contains-here, Contains-there, Contains-cons_cases, no_member}
use Rattle.gix_object.specs.declared.Kind.TheVariants as kind
use Rattle.gix_object.specs.Object.{Object, Objects}
use Rattle.gix_names.specs.Named.{IsNamed}
use Rattle.gix_records.specs.NamedRecords.{AreNamed}
use Rattle.gix_commitgraph.specs.Rows.{GraphRow, no_row, row_at, row_of}
use Rattle.gix_commitgraph.specs.Packed.{AreGraphRows}
use Rattle.gix_commitgraph.proofs.Packed.RowSearch.{row_of-found}
use Rattle.gix_revwalk.specs.Commits.{commit_at, commit_of_object}
use Rattle.gix_revwalk.specs.Agreeing.{RowAgrees}
use Rattle.gix_graph_check.proofs.WholeCommits.{row-agrees}
use Rattle.gix_graph_verify.specs.Differences.{IsBacked}

-- objects of which each is named
named-all : (objects : Objects) → ((i : ObjectId) (o : Object) → get objects i ≡ Some o → IsNamed i o.kind o.bytes) → AreNamed objects
named-all objects h i = cases (get objects i) refl
  where
    cases : (found : Option Object) → get objects i ≡ found → IfSome found (λ o. IsNamed i o.kind o.bytes)
    cases None e = tt
    cases (Some o) e = h i o e

named-here : (objects : Objects) → AreNamed objects → (i : ObjectId) (o : Object) → get objects i ≡ Some o → IsNamed i o.kind o.bytes
named-here objects named i o e = subst (λ (found : Option Object). IfSome found (λ o. IsNamed i o.kind o.bytes)) e (named i)

-- the row of a place
at-place : (rows : List GraphRow) (row : GraphRow) (m : Contains rows row) → row_at rows m.0 ≡ row
at-place rows row m = get_or_default rows m.0 no_row row m.1 ∙ m.2

-- no two rows have one id
one-row : (rows : List GraphRow) → AreGraphRows rows → (row other : GraphRow) → Contains rows row → Contains rows other → row.id ≡ other.id → row ≡ other
one-row rows are row other m n e =
    let found : (r : GraphRow) → (c : Contains rows r) → r.id ≡ row.id → row_of rows row.id ≡ Some r =
    λ r c same. row_of-found rows row.id c.0 are.rising c.1 ((Equal-is (id_cmp (row_at rows c.0).id row.id)).0 (same_from (row_at rows c.0).id row.id (ap (λ (x : GraphRow). x.id) (at-place rows r c) ∙ same))) ∙ ap Some (at-place rows r c) in
    let one : Some row ≡ Some other = sym (found row m refl) ∙ found other n (sym e) in
    cc

module _ (rows : List GraphRow) (are : AreGraphRows rows) (lower : List GraphRow) where
  -- the objects of the rows of a part of the list
  pub record Gathered (part : List GraphRow) : Type 0 where
    pub objects : Objects
    pub named : AreNamed objects
    pub agree : (row : GraphRow) → Contains part row → row_of lower row.id ≡ None → RowAgrees objects rows row

  object_of : (i : ObjectId) (bytes : List ℕ) → Object
  object_of i bytes = record { kind = kind.Commit; bytes = bytes }

  module _ (row : GraphRow) (part : List GraphRow) (backed : IsBacked rows row) (g : Gathered part) where
    object : Object
    object = record { kind = kind.Commit; bytes = backed.named.bytes }

    more : Objects
    more = insert g.objects row.id object

    got : (i : ObjectId) → get more i ≡ cond (is_same i row.id) (Some object) (get g.objects i)
    unfolding more
    got i = get-insert id_total g.objects row.id object i

    named-by : (i : ObjectId) (o : Object) (b : Bool) → is_same i row.id ≡ b → get more i ≡ cond b (Some object) (get g.objects i) → get more i ≡ Some o → IsNamed i o.kind o.bytes
    unfolding object
    named-by i o true e h f =
        let one : Some object ≡ Some o = sym h ∙ f in
        let same : object ≡ o = cc in
        subst (λ (x : Object). IsNamed i x.kind x.bytes) same (subst (λ (j : ObjectId). IsNamed j kind.Commit backed.named.bytes) (sym (same_is i row.id e)) backed.named.named)
    named-by i o false e h f = named-here g.objects g.named i o (sym h ∙ f)

    commit-of-own : commit_at more row.id ≡ Some backed.commit
    unfolding object
    commit-of-own = ap (commit_of_object row.id) (got row.id ∙ ap (λ b. cond b (Some object) (get g.objects row.id)) (same_from row.id row.id refl)) ∙ backed.named.read

    own : RowAgrees more rows row
    own = row-agrees more rows row backed.commit commit-of-own backed.agrees

    -- another row's object stays
    stays : (other : GraphRow) → is_same other.id row.id ≡ false → RowAgrees g.objects rows other → RowAgrees more rows other
    stays other e a =
        let same : get more other.id ≡ get g.objects other.id = got other.id ∙ ap (λ b. cond b (Some object) (get g.objects other.id)) e in
        record {
          whole = record { commit = a.whole.commit; stored = ap (commit_of_object other.id) same ∙ a.whole.stored };
          tree = a.tree;
          time = a.time;
          places = a.places;
          parents = a.parents;
          finite = a.finite;
        }

    agree-by : Contains rows row → (other : GraphRow) → Contains rows other → (b : Bool) → is_same other.id row.id ≡ b → (is_same other.id row.id ≡ false → RowAgrees g.objects rows other) → RowAgrees more rows other
    agree-by m other n true e h = subst (λ (r : GraphRow). RowAgrees more rows r) (one-row rows are row other m n (sym (same_is other.id row.id e))) own
    agree-by m other n false e h = stays other e (h e)

    pub gather-one : Contains rows row → ((r : GraphRow) → Contains part r → Contains rows r) → Gathered (row ∷ part)
    gather-one m within = record {
      objects = more;
      named = named-all more (λ i o f. named-by i o (is_same i row.id) refl (got i) f);
      agree = λ other c none. cases other c none (Contains-cons_cases other row part c);
    }
      where
        cases : (other : GraphRow) → Contains (row ∷ part) other → row_of lower other.id ≡ None → (row ≡ other) ⊎ Contains part other → RowAgrees more rows other
        cases other c none (inl same) = subst (λ (r : GraphRow). RowAgrees more rows r) same own
        cases other c none (inr there) = agree-by m other (within other there) (is_same other.id row.id) refl (λ e. g.agree other there none)

  -- a row that isn't compared
  gather-none : (row : GraphRow) (part : List GraphRow) (there : GraphRow) → row_of lower row.id ≡ Some there → Gathered part → Gathered (row ∷ part)
  gather-none row part there e g = record {
    objects = g.objects;
    named = g.named;
    agree = λ other c none. cases other none (Contains-cons_cases other row part c);
  }
    where
      cases : (other : GraphRow) → row_of lower other.id ≡ None → (row ≡ other) ⊎ Contains part other → RowAgrees g.objects rows other
      cases other none (inl same) = let bad : Some there ≡ None = sym e ∙ ap (λ (r : GraphRow). row_of lower r.id) same ∙ none in cc
      cases other none (inr m) = g.agree other m none

  nothing : Gathered []
  nothing = record {
    objects = empty;
    named = named-all empty (λ i o e. (let bad : None ≡ Some o = sym (get-empty id_cmp i) ∙ e in cc));
    agree = λ row m none. absurd (no_member row m);
  }

  gather-by : (row : GraphRow) (part : List GraphRow) → ((r : GraphRow) → Contains (row ∷ part) r → Contains rows r) → ((r : GraphRow) → Contains (row ∷ part) r → row_of lower r.id ≡ None → IsBacked rows r) → Gathered part
      → (found : Option GraphRow) → row_of lower row.id ≡ found → Gathered (row ∷ part)
  gather-by row part within backed rest None e = gather-one row part (backed row (Contains-here row part) e) rest (within row (Contains-here row part)) (λ r m. within r (Contains-there r row part m))
  gather-by row part within backed rest (Some there) e = gather-none row part there e rest

  pub gather : (part : List GraphRow) → ((r : GraphRow) → Contains part r → Contains rows r) → ((r : GraphRow) → Contains part r → row_of lower r.id ≡ None → IsBacked rows r) → Gathered part
  gather [] within backed = nothing
  gather (row ∷ part) within backed =
      gather-by row part within backed (gather part (λ r m. within r (Contains-there r row part m)) (λ r m. backed r (Contains-there r row part m))) (row_of lower row.id) refl

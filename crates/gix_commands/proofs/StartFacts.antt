-- How walks over stored commits start.
use Rattle.std.proofs.Common.{◌≡◌, ◌≢◌, List, [], ◌++◌, Result, Ok, Err, IfErr, refl, sym, ap, subst, ◌∙◌}
use Rattle.gix_commands.proofs.Common.{ObjectId, Objects, GraphRow, Parents, TopoBuilder, Built, fresh_builder, Fault, fault_of_walk, fault_of_topo_walk, objects_of, never_faulty, accepts_all, IsMadeOf, IsStartFault}
use Rattle.gix_simple.specs.declared.Error.{Error}
use Rattle.gix_simple.specs.declared.Error.TheVariants as error
use Rattle.gix_simple.specs.declared.Sorting.{Sorting}
use Rattle.gix_simple.specs.declared.Sorting.TheVariants as sorting
use Rattle.gix_revwalk.specs.declared.Unfiltered.{Unfiltered}
use Rattle.gix_topo.specs.declared.Error.{Error as TopoError}
use Rattle.gix_topo.specs.declared.Sorting.{Sorting as TopoSorting}
use Rattle.gix_simple.specs.Building.{IsSortedByTime, FailsAtTip}
use Rattle.gix_commands.specs.TopoWalked as topo
use Rattle.gix_commands.specs.Walked.{Walk, IsSorted}

abbrev Builder : Type 0
Builder = TopoBuilder Objects Unfiltered

ok_same : {a b : Walk} → ◌≡◌ {A = Result Walk Error} (Ok a) (Ok b) → a ≡ b
ok_same same = cc

-- what the calls leave that hide, that choose parents and that give rows
pub held : (sorted hides walks last : Walk) (m : Parents) (ids hidden : List ObjectId) (copy rows : List GraphRow) → hides ≡ record sorted { hidden_tips = ids } → ids ≡ hidden → walks ≡ record hides { parents = m } → last ≡ record walks { rows = copy } → copy ≡ rows → last ≡ record sorted { parents = m; rows = rows; hidden_tips = hidden }
held sorted hides walks last m ids hidden copy rows h is w l same =
    l ∙ (λ k. record (w k) { rows = same k }) ∙ (λ k. record (h k) { parents = m; rows = rows }) ∙ ap (λ those. record sorted { parents = m; rows = rows; hidden_tips = those }) is

-- the walk was made over this store, of these tips
pub made_of : (store objects : Objects) (ids tips : List ObjectId) (made : Walk) → store ≡ objects → ids ≡ tips → IsMadeOf store ids made → IsMadeOf objects tips made
made_of store objects ids tips made same is h = subst (λ those. IsMadeOf objects those made) is (subst (λ o. IsMadeOf o ids made) same h)

-- the builder has this store
pub fresh_over : (store objects : Objects) (fresh : Builder) → store ≡ objects → fresh ≡ fresh_builder store (record {}) [] → fresh ≡ fresh_builder objects (record {}) []
fresh_over store objects fresh same is = is ∙ ap (λ o. fresh_builder o (record {}) []) same

-- what sorting says of a walk that it gave
pub is_sorted : (made sorted : Walk) (by : Sorting) → (by ≡ sorting.BreadthFirst → ◌≡◌ {A = Result Walk Error} (Ok sorted) (Ok (record made { sorting = by }))) → (by ≢ sorting.BreadthFirst → IsSortedByTime objects_of made by sorted) → IsSorted made by sorted
is_sorted made sorted sorting.BreadthFirst plain timed = ok_same (plain refl)
is_sorted made sorted (sorting.ByCommitTime order) plain timed = timed (λ e. cc)
is_sorted made sorted (sorting.ByCommitTimeCutoff order seconds) plain timed = timed (λ e. cc)

-- the time of a tip couldn't be read, or memory ran out
pub start_failed : (objects : Objects) (by : Sorting) (tips : List ObjectId) (made : Walk) → IsMadeOf objects tips made → (why : Error) (result : Result Walk Fault) (e : Fault) → result ≡ Err e → e ≡ fault_of_walk why
    → (by ≡ sorting.BreadthFirst → ◌≡◌ {A = Result Walk Error} (Err why) (Ok (record made { sorting = by }))) → (why ≢ error.Memory → FailsAtTip made.store (never_faulty made.store) made.pending why) → IfErr result (IsStartFault objects by tips)
start_failed objects by tips made makes why result e same is plain h =
    subst (λ (r : Result Walk Fault). IfErr r (IsStartFault objects by tips)) (sym same)
    (λ other. (why, record { by_time = λ b. cc (plain b); made = made; makes = makes; fails = h (λ m. other (is ∙ ap fault_of_walk m)) }, is))

abbrev with_more_tips : Builder → List ObjectId → Builder
with_more_tips b ids = record b { plan = record b.plan { tips = b.plan.tips ++ ids } }

abbrev with_more_ends : Builder → List ObjectId → Builder
with_more_ends b ids = record b { plan = record b.plan { ends = b.plan.ends ++ ids } }

abbrev in_order : TopoSorting → Builder → Builder
in_order by b = record b { plan = record b.plan { sorting = by } }

abbrev through : Parents → Builder → Builder
through m b = record b { plan = record b.plan { parents = m } }

abbrev with_these : List GraphRow → Builder → Builder
with_these rows b = record b { plan = record b.plan { rows = rows } }

abbrev pub builder_from : Objects → List GraphRow → Parents → TopoSorting → List ObjectId → List ObjectId → Builder
builder_from objects rows m by tips ends = record { plan = topo.plan_from objects rows m by tips ends; predicate = record {} }

-- the calls that choose make this builder
pub chosen : (objects : Objects) (rows : List GraphRow) (m : Parents) (by : TopoSorting) (tips ends those others : List ObjectId) (fresh from_tips builder walked sorted given : Builder) (copy : List GraphRow)
    → fresh ≡ fresh_builder objects (record {}) [] → from_tips ≡ record fresh { plan = record fresh.plan { tips = fresh.plan.tips ++ those } } → those ≡ tips
    → builder ≡ record from_tips { plan = record from_tips.plan { ends = from_tips.plan.ends ++ others } } → others ≡ ends → walked ≡ record builder { plan = record builder.plan { parents = m } } → sorted ≡ record walked { plan = record walked.plan { sorting = by } }
    → given ≡ record sorted { plan = record sorted.plan { rows = copy } } → copy ≡ rows → given ≡ builder_from objects rows m by tips ends
chosen objects rows m by tips ends those others fresh from_tips builder walked sorted given copy f t those_are e others_are w s g same =
    g ∙ ap (λ those. with_these those sorted) same ∙ ap (with_these rows) (s ∙ ap (in_order by) (w ∙ ap (through m) (e ∙ ap (with_more_ends from_tips) others_are ∙ ap (λ b. with_more_ends b ends) (t ∙ ap (with_more_tips fresh) those_are ∙ ap (λ b. with_more_tips b tips) f))))

module _ (objects : Objects) (rows : List GraphRow) (m : Parents) (by : TopoSorting) (tips ends : List ObjectId) (builder : Builder) (same : builder ≡ builder_from objects rows m by tips ends) where
  pub built_from : (answer : Result topo.Walk TopoError) → Built objects_of never_faulty accepts_all builder answer → topo.IsBuiltFrom objects rows m by tips ends answer
  built_from answer h = subst (λ (b : Builder). Built objects_of never_faulty accepts_all b answer) same h

  -- the walk couldn't be built
  pub build_failed : (why : TopoError) (result : Result topo.Walk Fault) (e : Fault) → result ≡ Err e → e ≡ fault_of_topo_walk why → Built objects_of never_faulty accepts_all builder (Err why) → IfErr result (topo.IsStartFault objects rows m by tips ends)
  build_failed why result e is fault h = subst (λ (r : Result topo.Walk Fault). IfErr r (topo.IsStartFault objects rows m by tips ends)) (sym is) (λ other. (why, built_from (Err why) h, fault))

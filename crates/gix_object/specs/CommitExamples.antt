-- Worked examples of the items and texts of commits, and of the seconds of signatures.
use Rattle.std.specs.Prelude.{◌≡◌, ℕ, ◌-◌, ◌^◌, List, [], ◌∷◌, ◌++◌, replicate, codes, Some, Ok, Err, pos, neg_ℤ, refl}
use Rattle.gix_hash.specs.declared.Kind.TheVariants as kind
use Rattle.gix_hash.specs.declared.ObjectId.{ObjectId}
use Rattle.gix_hash.specs.declared.ObjectId.TheVariants as id
use Rattle.gix_object.specs.declared.decode.Error.TheVariants as fault
use Rattle.gix_object.specs.CommitItems.{commit_items, Tree, Parent, Author, Committer, Rest}
use Rattle.gix_object.specs.CommitText.{read_commit, seconds_of}
use Rattle.hex.proofs.OnLiterals.{hex_on_literals}

-- the digits of the id that is one digit forty times
abbrev pub digits : ℕ → List ℕ
digits d = replicate 40 d

abbrev pub id_of_ones : ObjectId
id_of_ones = id.Sha1 (replicate 20 17)

pub no_items : commit_items kind.Sha1 [] ≡ []
no_items = refl

pub short_tree : commit_items kind.Sha1 (codes "tree " ++ replicate 39 49 ++ 10 ∷ []) ≡ Err fault.Tree ∷ []
unfolding hex_on_literals
short_tree = refl

pub short_parent : commit_items kind.Sha1 (codes "tree " ++ digits 49 ++ 10 ∷ codes "parent " ++ replicate 39 49 ++ 10 ∷ [])
    ≡ Ok (Tree id_of_ones) ∷ Err fault.Parent ∷ []
unfolding hex_on_literals
short_parent = refl

pub tree_and_parent : commit_items kind.Sha1 (codes "tree " ++ digits 49 ++ 10 ∷ codes "parent " ++ digits 49 ++ 10 ∷ [])
    ≡ Ok (Tree id_of_ones) ∷ Ok (Parent id_of_ones) ∷ []
unfolding hex_on_literals
tree_and_parent = refl

pub all_items : commit_items kind.Sha1 (codes "tree " ++ digits 49 ++ 10 ∷ codes "author A" ++ 10 ∷ codes "committer B" ++ 10 ∷ 10 ∷ codes "text")
    ≡ Ok (Tree id_of_ones) ∷ Ok (Author (codes "A")) ∷ Ok (Committer (codes "B")) ∷ Ok (Rest (10 ∷ codes "text")) ∷ []
unfolding hex_on_literals
all_items = refl

pub no_newline : commit_items kind.Sha1 (codes "tree " ++ digits 49 ++ 10 ∷ codes "author A" ++ 10 ∷ codes "committer B")
    ≡ Ok (Tree id_of_ones) ∷ Ok (Author (codes "A")) ∷ Err fault.Committer ∷ []
unfolding hex_on_literals
no_newline = refl

pub whole : read_commit kind.Sha1 (codes "tree " ++ digits 49 ++ 10 ∷ codes "parent " ++ digits 49 ++ 10 ∷ codes "author A <a@b> 2 +0000" ++ 10
    ∷ codes "committer A <a@b> 2 +0000" ++ 10 ∷ 10 ∷ []) ≡ Some (record { tree = id_of_ones; parents = id_of_ones ∷ []; time = pos 2 })
unfolding hex_on_literals
whole = refl

pub no_seconds : seconds_of (codes "A <a@b>") ≡ pos 0
no_seconds = refl

pub greatest_seconds : seconds_of (codes "A <a@b> 9223372036854775807 +0000") ≡ pos (2 ^ 63 - 1)
greatest_seconds = refl

pub too_many_seconds : seconds_of (codes "A <a@b> 9223372036854775808 +0000") ≡ pos 0
too_many_seconds = refl

pub least_seconds : seconds_of (codes "A <a@b> -9223372036854775808 +0000") ≡ neg_ℤ (pos (2 ^ 63))
least_seconds = refl

pub spaced_sign : seconds_of (codes "A <a@b> - 5") ≡ pos 0
spaced_sign = refl

pub last_angle : seconds_of (codes "A > 1 <a@b>   -12x3") ≡ neg_ℤ (pos 12)
last_angle = refl

-- What formats write, as `git log --abbrev=10 --format=..` writes it.
use Rattle.std.proofs.Common.{◌≡◌, ℕ, ℤ, pos, List, [], ◌∷◌, ◌++◌, true, false, codes, replicate, refl}
use Rattle.std.specs.Fmt.{digits}
use Rattle.hex.proofs.OnLiterals.{hex_on_literals}
use Rattle.gix_hash.specs.declared.ObjectId.{ObjectId}
use Rattle.gix_hash.specs.declared.ObjectId.TheVariants.{Sha1}
use Rattle.gix_statement.specs.Formats.{Commit, date_and_time, formatted, is_format, offset}

-- a commit of this id, with these parents and this time, of whose text this is behind the line for the tree
abbrev commit : List ℕ → List ObjectId → ℤ → List ℕ → Commit
commit id parents time rest = record { id = Sha1 id; parents = parents; time = time; text = codes "tree 4b825dc642cb6eb9a060e54bf8d69288fbee4904\n" ++ rest }

abbrev child : Commit
child = commit (replicate 20 0xab) [] (pos 951868799) (codes "author A U Thor  <a.u@thor> 1112911993 -0700\ncommitter C O Mitter <c@o> 951868799 +0530\n\nsubject line\n\nbody\n")

abbrev merge : Commit
merge = commit (replicate 20 0xcd) (Sha1 (replicate 20 0x11) ∷ Sha1 (replicate 20 0x22) ∷ []) (pos 4102444799) (codes "author <only@mail> 0 +0000\ncommitter X <x> 4102444799 -0030\n\nmerge\n")

ids_and_a_newline : formatted child 0 (codes "%H%n%h") ≡ codes "abababababababababababababababababababab\nababababab"
unfolding digits hex_on_literals
ids_and_a_newline = refl

all_of_a_child :
    formatted child 0 (codes "%T|%P|%ct|%ci|%an|%ae|%s|%%")
    ≡ codes "4b825dc642cb6eb9a060e54bf8d69288fbee4904||951868799|2000-03-01 05:29:59 +0530|A U Thor|a.u@thor|subject line|%"
unfolding digits hex_on_literals
all_of_a_child = refl

all_of_a_merge :
    formatted merge 0 (codes "%P|%ct|%ci|%an|%ae|%s")
    ≡ codes "1111111111111111111111111111111111111111 2222222222222222222222222222222222222222|4102444799|2099-12-31 23:29:59 -0030||only@mail|merge"
unfolding digits hex_on_literals
all_of_a_merge = refl

abbrev at_utc : ℕ → List ℕ
at_utc seconds = date_and_time (pos seconds) (codes "+0000")

the_first_second : at_utc 0 ≡ codes "1970-01-01 00:00:00 +0000"
unfolding digits
the_first_second = refl

the_last_second_of_a_28th : at_utc 68169599 ≡ codes "1972-02-28 23:59:59 +0000"
unfolding digits
the_last_second_of_a_28th = refl

the_day_behind_a_29th : at_utc 68256000 ≡ codes "1972-03-01 00:00:00 +0000"
unfolding digits
the_day_behind_a_29th = refl

a_century_with_a_29th : at_utc 951782400 ≡ codes "2000-02-29 00:00:00 +0000"
unfolding digits
a_century_with_a_29th = refl

a_century_without : at_utc 4107542399 ≡ codes "2100-02-28 23:59:59 +0000"
unfolding digits
a_century_without = refl

beyond_400_years : at_utc 16725225600 ≡ codes "2500-01-01 00:00:00 +0000"
unfolding digits
beyond_400_years = refl

the_last_of_four_digits : at_utc 253402300799 ≡ codes "9999-12-31 23:59:59 +0000"
unfolding digits
the_last_of_four_digits = refl

-- of this clock git writes nothing, since it ends the run
a_clock_that_would_be_before_1970 : date_and_time (pos 60) (codes "-0100") ≡ codes "1970-01-01 00:00:00 -0100"
unfolding digits
a_clock_that_would_be_before_1970 = refl

-- PEOPLE AND DATES that aren't in git's form. Of several lines git takes the last one.
abbrev people_of : List ℕ → List ℕ
people_of rest = formatted (commit (replicate 20 0xab) [] (pos 1000000000) rest) 0 (codes "%an|%ae|%ci|%s")

two_of_each :
    people_of (codes "author A <a> 1 +0000\nauthor B <b> 1 +0000\ncommitter C <c> 1000000000 +0200\ncommitter C <c> 1100000000 -0300\n\nx\n")
    ≡ codes "A|a|2001-09-09 03:46:40 +0200|x"
unfolding digits
two_of_each = refl

people_in_the_message : people_of (codes "\nauthor A <a> 1 +0000\ncommitter C <c> 1000000000 +0200\n") ≡ codes "|||author A <a> 1 +0000 committer C <c> 1000000000 +0200"
people_in_the_message = refl

carriage_returns : people_of (codes "author A <a> 1 +0000\r\ncommitter C <c> 1000000000 +0200\r\n\nx\r\n") ≡ codes "A|a|2001-09-09 03:46:40 +0200|x"
unfolding digits
carriage_returns = refl

-- a byte 0 ends a line as a newline does
a_byte_0_in_an_author : people_of (codes "author A <a>" ++ 0 ∷ codes "b\ncommitter C <c> 1000000000 +0200\n\nx\n") ≡ codes "A|a|2001-09-09 03:46:40 +0200|x"
unfolding digits
a_byte_0_in_an_author = refl

a_byte_0_behind_an_offset : people_of (codes "author A <a>\ncommitter C <c> 1000000000 +0200" ++ 0 ∷ codes "\nx\n") ≡ codes "A|a|2001-09-09 03:46:40 +0200|x"
unfolding digits
a_byte_0_behind_an_offset = refl

a_line_that_a_byte_0_makes_empty : people_of (codes "author A <a>\n" ++ 0 ∷ codes "committer C <c> 1000000000 +0200\n\nx\n") ≡ codes "A|a||"
a_line_that_a_byte_0_makes_empty = refl

abbrev date_of : List ℕ → List ℕ
date_of committer = date_and_time (pos 1000000000) (offset committer)

white_space_behind_an_offset : date_of (codes "C <c> 1000000000   +0200 \t\r") ≡ codes "2001-09-09 03:46:40 +0200"
unfolding digits
white_space_behind_an_offset = refl

a_minus_and_no_offset : date_of (codes "C <c> 1000000000 -0000") ≡ codes "2001-09-09 01:46:40 +0000"
unfolding digits
a_minus_and_no_offset = refl

no_offset : date_of (codes "C <c> 1000000000") ≡ []
no_offset = refl

no_address : date_of (codes "C c 1000000000 +0200") ≡ []
no_address = refl

no_committer : date_of [] ≡ []
no_committer = refl

-- git takes any number of digits, and passes over what is behind them
an_offset_of_three_digits : date_of (codes "C <c> 1000000000 +200") ≡ []
an_offset_of_three_digits = refl

upper_case_in_a_tree : formatted (record { id = Sha1 (replicate 20 0xab); parents = []; time = pos 0; text = codes "tree 4B825DC642CB6EB9A060E54BF8D69288FBEE4904\n" }) 0 (codes "%T")
    ≡ codes "4b825dc642cb6eb9a060e54bf8d69288fbee4904"
upper_case_in_a_tree = refl

is_a_format : is_format 0 (codes "%H %h%T%P %ct%ci %an<%ae>: %s%n%%") ≡ true
is_a_format = refl

no_such_field : is_format 0 (codes "%x") ≡ false
no_such_field = refl

a_field_cut_short : is_format 0 (codes "%a") ≡ false
a_field_cut_short = refl

a_sign_at_the_end : is_format 0 (codes "100%") ≡ false
a_sign_at_the_end = refl

a_field_of_another : is_format 0 (codes "%cn") ≡ false
a_field_of_another = refl

-- Where no file has passed before, files in which no difference was found are checked by what they were compared with.
use Rattle.std.proofs.Common.{◌≡◌, ℕ, List, [], map, None, All, refl, sym, ◌∙◌, arith}
use Rattle.std.proofs.lemmas.Option.{none-some, same_Some}
use Rattle.gix_hash.proofs.Ids.Membership.{no_member}
use Rattle.gix_commitgraph.specs.Packed.{AreBytes}
use Rattle.gix_graph_verify.specs.Verified.{IsVerified}
use Rattle.gix_statement.specs.WholeStatement.{AreNamed, Objects}
use Rattle.gix_graph_pages.specs.GraphPages.{Layer}
use Rattle.gix_commands.specs.Pages.{page_objects}
use Rattle.gix_commands.proofs.NamedOnes.{are_named}
use Rattle.gix_checked_graph.specs.Checked.{AreChecked, HasAllOf}
use Rattle.gix_checked_graph.proofs.FilesChecked.{checked_files}

abbrev nothing : Objects
nothing i = None

pub no_layers : (objects : Objects) → AreNamed objects → AreChecked [] objects
no_layers objects named = record {
  generation = λ i. 0;
  sound = record { each = λ k layer e. absurd (none-some layer e); falling = λ r m. absurd (no_member r m) };
  apart = λ i j d l m. absurd (omega (arith, m));
  named = named;
  texts = λ r m. absurd (no_member r m);
}

has_nothing : (objects : Objects) → HasAllOf objects nothing
has_nothing objects = (λ i some. absurd (some refl), λ c. none-some c.1 c.3)

pub has_itself : (objects : Objects) → HasAllOf objects objects
has_itself objects = (λ i some. some, λ c. c.5 (same_Some c.1 c.2 (sym c.3 ∙ c.4)))

pub from_nothing : (files : List (List ℕ)) → All AreBytes files → (verified : IsVerified files 0) → (layers : List Layer) × (map (λ (layer : Layer). layer.file) layers ≡ files) × AreChecked layers (page_objects verified.objects)
from_nothing files small verified =
    let objects = page_objects verified.objects in
    checked_files files 0 small verified [] nothing objects refl (no_layers nothing (λ i o e. absurd (none-some o e))) (are_named verified.objects verified.named) (has_nothing objects) (has_itself objects)

-- A word that was read, as a search, and what stands behind a search for the next one.
use Rattle.std.specs.Prelude.{◌≡◌, ℕ, List, [], ◌∷◌, Some, Result, Ok, Err}
use Rattle.std.proofs.Common.{sym, subst, ◌∙◌}
use Rattle.gier_order.specs.declared.object.Object.{Object}
use Rattle.gier_order.specs.Flat.Row.{Regs, Row}
use Rattle.gier_places.specs.Contents.{Agrees}
use Rattle.gier_exec.specs.Reading.{Stand}
use Rattle.gier_exec.specs.References.{Refers, RefinesFetch, fetched_at}
use Rattle.gier_exec.specs.Searching.{RefinesSearch}
use Rattle.gier_exec.specs.declared.stop.Miss.{Miss}
use Rattle.gier_exec.proofs.Searches.{finds_missed}

pub search_word : (object : Object) (old new : Stand) (row : Row) (a : ℕ) (regs : Regs) (go : ℕ → Row) (result : Result ℕ Miss) → Refers object (fetched_at a result) old new → RefinesFetch row go a result → RefinesSearch object old new row regs go result
search_word object old new row a regs go (Ok word) refers h = (a ∷ [], refers, h)
search_word object old new row a regs go (Err miss) refers h = ([], refers, finds_missed row a regs go go miss h)

-- the drum's tracks are still told, and the places agree with them
pub search_told : {A : Type 0} (object : Object) (old new : Stand) (row : Row) (regs : Regs) (go : A → Row) (result : Result A Miss) (tracks : List (List ℕ)) → RefinesSearch object old new row regs go result → new.tracks ≡ old.tracks → old.tracks ≡ Some tracks → Agrees (Some tracks) old.places.held
    → Agrees (Some tracks) new.places.held
search_told object old new row regs go result tracks h same told agrees =
    subst (λ t. Agrees t new.places.held) (same ∙ told) (h.1.agrees (subst (λ t. Agrees t old.places.held) (sym told) agrees))

-- What is asked of the scope of a block for which the law is proved so far: it declares simple variables and labels, each
-- identifier once, and its level and its room are in their bounds. Own declarations declare nothing, since they were hoisted.
use Rattle.std.specs.Prelude.{◌≤◌, ◌<◌, ◌^◌, ◌+◌, suc, ⊤}
use Rattle.gier_tree.specs.Coded.{scopes_of}
use Rattle.gier_tree.specs.Entries.{block_entries}
use Rattle.gier_tree.specs.Need.{need_block}
use Rattle.gier_tree.specs.Places.{Places, block_places}
use Rattle.gier_tree.specs.Room.{block_words}
use Rattle.gier_tree.specs.Texts.{Where}
use Rattle.gier_tree.specs.Trees.{Declaration, DeclareType, DeclareOwn, DeclareOwnArrays, Declarations, NoDeclarations}
use Rattle.gier_tree.specs.Trees.{MoreDeclarations, Statement, Statements}
use Rattle.gier_scope.specs.Places.{greatest_level}
use Rattle.gier_fair.specs.InScope.{AreDistinct, identifiers}

abbrev pub IsSimple : Declaration → Type 0
IsSimple (DeclareType t ns) = ⊤
IsSimple (DeclareOwn l t ns) = ⊤
IsSimple (DeclareOwnArrays k t l s ss) = ⊤
IsSimple d = ⊥

abbrev pub AreSimple : Declarations → Type 0
AreSimple NoDeclarations = ⊤
AreSimple (MoreDeclarations d l ds) = IsSimple d × AreSimple ds

-- of a block that stands there
pub record FairScope (p : Places) (at : Where) (d : Declaration) (ds : Declarations) (s : Statement) (ss : Statements)
    : Type 0 where
  pub level : suc at.level ≤ greatest_level
  pub distinct : AreDistinct (identifiers (block_entries d ds s ss))
  pub first : IsSimple d
  pub others : AreSimple ds
  pub room : block_words d ds + need_block (scopes_of (block_places (suc at.level) at.numbers d ds s ss p)) d ds s ss < 2 ^ 24

-- Between declarations and statements nothing waits. What a part leaves there, and what a declaration begins with.
use Rattle.std.proofs.Common.{◌≡◌, List, [], ◌∷◌, refl}
use Rattle.gier_symbol.specs.declared.symbol.Symbol.{Symbol}
use Rattle.gier_tree.specs.declared.kind.Kind.{Kind}
use Rattle.gier_text4.specs.PurePass.{waiting}
use Rattle.gier_text4.specs.State.{Owning, NotOwn, MayBeOwn, Frame, NoFrame, WholeFrame, FrameBegin, Place, Statements, State}
use Rattle.gier_text4.specs.State.{MkState, put}
use Rattle.gier_text4.proofs.DeclaredNames.{IsOpen, OpenNot, OpenMay}

abbrev pub calm : (out owns : List Symbol) → (scopes : List (List Symbol)) → (own_entries : List Symbol) → Frame → State
calm o d sc w fr = MkState o d sc w [] NotOwn Statements fr

-- behind the shut mark of what may be an own declaration
abbrev pub begun : Frame → (shut : Symbol) → Owning
begun FrameBegin s = MayBeOwn (λ k. s ∷ k)
begun fr s = NotOwn

abbrev pub begun_out : Frame → (shut : Symbol) → List Symbol → List Symbol
begun_out FrameBegin s o = o
begun_out fr s o = s ∷ o

pub begun_open : (fr : Frame) (s : Symbol) → IsOpen (begun fr s)
begun_open NoFrame s = OpenNot
begun_open (WholeFrame l) s = OpenNot
begun_open FrameBegin s = OpenMay (λ k. s ∷ k)

pub begun_waits : (fr : Frame) (s : Symbol) (o : List Symbol) → waiting (begun fr s) (begun_out fr s o) ≡ s ∷ o
begun_waits NoFrame s o = refl
begun_waits (WholeFrame l) s o = refl
begun_waits FrameBegin s o = refl

-- symbols put before what waits
abbrev pub more_own : Owning → (List Symbol → List Symbol) → Owning
more_own (MayBeOwn part) g = MayBeOwn (λ k. g (part k))
more_own own g = own

abbrev pub more_out : Owning → (List Symbol → List Symbol) → List Symbol → List Symbol
more_out (MayBeOwn part) g o = o
more_out own g o = g o

pub more_open : (own : Owning) → IsOpen own → (g : List Symbol → List Symbol) → IsOpen (more_own own g)
more_open _ OpenNot g = OpenNot
more_open _ (OpenMay part) g = OpenMay (λ k. g (part k))

pub put_open : (own : Owning) → IsOpen own → (g : List Symbol → List Symbol) (o d : List Symbol) (sc : List (List Symbol))
    (w : List Symbol) (f : List Kind) (at : Place) (fr : Frame)
    → put g (MkState o d sc w f own at fr) ≡ MkState (more_out own g o) d sc w f (more_own own g) at fr
put_open _ OpenNot g o d sc w f at fr = refl
put_open _ (OpenMay part) g o d sc w f at fr = refl

pub more_waits : (own : Owning) → IsOpen own → (g : List Symbol → List Symbol) (o : List Symbol)
    → waiting (more_own own g) (more_out own g o) ≡ g (waiting own o)
more_waits _ OpenNot g o = refl
more_waits _ (OpenMay part) g o = refl

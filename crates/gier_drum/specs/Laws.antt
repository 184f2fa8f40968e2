-- What is known of tracks that are told. The laws of the trait `Drum` cite these proofs, and a law may cite specs alone.
use Rattle.std.specs.Prelude.{◌≡◌, ◌<◌, ◌≤◌, ◌^◌, ℕ, List, All, length, None, Some}
use Rattle.std.proofs.Common.{ap, arith, subst}
use Rattle.gier_drum.specs.Drum.{IsTrack}
use Rattle.gier_drum.specs.Memory.{AreTracks}

pub few-bounded : {tracks : List (List ℕ)} → AreTracks tracks → length tracks ≤ 2 ^ 32
few-bounded ok = omega (arith, ok.few)

pub length-told : (tracks all : List (List ℕ)) → Some tracks ≡ Some all → length all ≡ length tracks
length-told tracks all told = let same : all ≡ tracks = cc in ap length same

pub shape-told : (tracks all : List (List ℕ)) → Some tracks ≡ Some all → AreTracks tracks → All IsTrack all
shape-told tracks all told ok = let same : tracks ≡ all = cc in subst (λ (ts : List (List ℕ)). All IsTrack ts) same ok.shaped

pub untold : {A : Type 0} {all : List (List ℕ)} → None ≡ Some all → A
untold told = cc

pub at_most : {room : ℕ} → room < 2 ^ 32 → room ≤ 2 ^ 32
at_most small = omega arith

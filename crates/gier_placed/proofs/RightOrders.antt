-- Each order of a text 7 has the number of an order.
use Rattle.std.proofs.Common.{List, [], ◌∷◌, sym, subst, arith}
use Rattle.std.specs.Prelude.{⊤}
use Rattle.gier_symbol.specs.declared.symbol.Symbol.{Symbol}
use Rattle.gier_order.specs.declared.operation.Operation.{Operation}
use Rattle.gier_order.specs.declared.operation.Operation.TheVariants as op
use Rattle.gier_tree.specs.Complete.{IsOrderNumber}
use Rattle.gier_tree.specs.Object.{Piece, AnOrder, piece_of}
use Rattle.gier_tree.specs.Orders.{number_of}
use Rattle.gier_tree.specs.Text7.{code_program}
use Rattle.gier_tree.specs.Trees.{Program, MkProgram}
use Rattle.gier_complete.proofs.Claims.{program_carries}
use Rattle.gier_complete.proofs.OrderPieces.{piece_is}
use Rattle.gier_complete.proofs.Passing.{Claim, IsCarried, none}

-- by its number
order_number : (o : Operation) → IsOrderNumber (number_of o)
order_number op.Start = record { least = omega arith; most = omega arith }
order_number op.Stop = record { least = omega arith; most = omega arith }
order_number op.Take = record { least = omega arith; most = omega arith }
order_number op.Short = record { least = omega arith; most = omega arith }
order_number op.Long = record { least = omega arith; most = omega arith }
order_number op.Keep = record { least = omega arith; most = omega arith }
order_number op.Addr = record { least = omega arith; most = omega arith }
order_number op.Fetch = record { least = omega arith; most = omega arith }
order_number op.Put = record { least = omega arith; most = omega arith }
order_number op.Add = record { least = omega arith; most = omega arith }
order_number op.Sub = record { least = omega arith; most = omega arith }
order_number op.Mul = record { least = omega arith; most = omega arith }
order_number op.Div = record { least = omega arith; most = omega arith }
order_number op.Pow = record { least = omega arith; most = omega arith }
order_number op.Neg = record { least = omega arith; most = omega arith }
order_number op.Lt = record { least = omega arith; most = omega arith }
order_number op.Le = record { least = omega arith; most = omega arith }
order_number op.Eq = record { least = omega arith; most = omega arith }
order_number op.Ge = record { least = omega arith; most = omega arith }
order_number op.Gt = record { least = omega arith; most = omega arith }
order_number op.Ne = record { least = omega arith; most = omega arith }
order_number op.Not = record { least = omega arith; most = omega arith }
order_number op.And = record { least = omega arith; most = omega arith }
order_number op.Or = record { least = omega arith; most = omega arith }
order_number op.Impl = record { least = omega arith; most = omega arith }
order_number op.Equiv = record { least = omega arith; most = omega arith }
order_number op.Jump = record { least = omega arith; most = omega arith }
order_number op.False = record { least = omega arith; most = omega arith }
order_number op.Test = record { least = omega arith; most = omega arith }
order_number op.Turn = record { least = omega arith; most = omega arith }
order_number op.Block = record { least = omega arith; most = omega arith }
order_number op.Leave = record { least = omega arith; most = omega arith }
order_number op.Array = record { least = omega arith; most = omega arith }
order_number op.Index = record { least = omega arith; most = omega arith }
order_number op.Proc = record { least = omega arith; most = omega arith }
order_number op.Call = record { least = omega arith; most = omega arith }
order_number op.Formal = record { least = omega arith; most = omega arith }
order_number op.Return = record { least = omega arith; most = omega arith }
order_number op.Thunk = record { least = omega arith; most = omega arith }
order_number op.Value = record { least = omega arith; most = omega arith }
order_number op.Place = record { least = omega arith; most = omega arith }
order_number op.NameL = record { least = omega arith; most = omega arith }
order_number op.Pass = record { least = omega arith; most = omega arith }
order_number op.Back = record { least = omega arith; most = omega arith }
order_number op.Give = record { least = omega arith; most = omega arith }
order_number op.Lib = record { least = omega arith; most = omega arith }
order_number op.Switch = record { least = omega arith; most = omega arith }
order_number op.SwForm = record { least = omega arith; most = omega arith }
order_number op.Lab = record { least = omega arith; most = omega arith }
order_number op.Go = record { least = omega arith; most = omega arith }
order_number op.Base = record { least = omega arith; most = omega arith }
order_number op.Kinds = record { least = omega arith; most = omega arith }
order_number op.Agree = record { least = omega arith; most = omega arith }
order_number op.ByVal = record { least = omega arith; most = omega arith }
order_number op.CallF = record { least = omega arith; most = omega arith }

abbrev pub IsRight : Piece → Type 0
IsRight (AnOrder o value) = IsOrderNumber o
IsRight piece = ⊤

abbrev pub AllRight : List Symbol → Type 0
AllRight [] = ⊤
AllRight (s ∷ rest) = IsRight (piece_of s) × AllRight rest

abbrev right_claim : Claim
right_claim n st rest = AllRight rest

right_carried : IsCarried right_claim
right_carried = record {
  an_order = λ o other value line n st rest h. (subst IsRight (sym (piece_is o value line)) (order_number o), h);
  a_use = λ value line n st rest h. (tt, h);
  a_word_use = λ value line n st rest h. (tt, h);
  a_word = λ value line n st rest h. (tt, h);
  a_room = λ value line n st rest h. (tt, h);
  a_place = λ value line n st rest h. (tt, h);
  a_need = λ value line n st rest h. (tt, h);
  a_new = λ n st rest h. h;
  same = λ n m rooms places st rest h. h;
}

pub all_right : (t : Program) → AllRight (code_program t)
all_right (MkProgram ls g l) = (
  tt,
  program_carries right_claim right_carried ls g l (record { rooms = 1; places = none }) (λ s.
      (order_number op.Stop, (tt, (tt, tt)))),
)

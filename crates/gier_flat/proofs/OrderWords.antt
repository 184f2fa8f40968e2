-- The word of an order is that order's.
use Rattle.std.proofs.Common.{◌≡◌, ℕ, ◌+◌, ◌*◌, ◌/◌, ◌%◌, ◌<◌, true, Option, Some, None, ap, ◌∙◌, arith}
use Rattle.std.specs.Prelude.{◌^◌, if◌then◌else◌}
use Rattle.gier_order.specs.declared.order.Order.{Order}
use Rattle.gier_order.specs.Codes.{order_at, is_row}
use Rattle.gier_order.specs.Table.{operation_at}

pub decoded : (n l a : ℕ) → l < 256 → a < 2 ^ 24 → is_row (operation_at n) l a ≡ true → order_at (n * 2 ^ 32 + (l * 2 ^ 24 + a)) ≡ Some (record { op = n; level = l; address = a })
decoded n l a low small row =
    let word : ℕ = n * 2 ^ 32 + (l * 2 ^ 24 + a) in
    let e : word / 2 ^ 32 ≡ n = omega (arith, low, small) in
    let f : word / 2 ^ 24 % 256 ≡ l = omega (arith, low, small) in
    let g : word % 2 ^ 24 ≡ a = omega (arith, low, small) in
    let made : ℕ → ℕ → ℕ → Option Order = λ x y z. if is_row (operation_at x) y z then Some (record { op = x; level = y; address = z }) else None in
    ap (λ x. made x (word / 2 ^ 24 % 256) (word % 2 ^ 24)) e ∙ ap (λ y. made n y (word % 2 ^ 24)) f ∙ ap (made n l) g
    ∙ ap (λ t. if t then Some (record { op = n; level = l; address = a }) else None) row

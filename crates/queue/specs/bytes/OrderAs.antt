-- An order as the paper counts it.
use Rattle.std.specs.Prelude.{◌≡◌, refl, ℕ, eqb}
use Rattle.std.specs.Ordering.{is_eq, is_lt}
use Rattle.std.specs.declared.cmp.Ordering.{Ordering}
use Rattle.std.specs.declared.cmp.Ordering.TheVariants.{Less, Equal, Greater}

abbrev pub order_number : Ordering → ℕ
order_number Less = 0
order_number Equal = 1
order_number Greater = 2

-- the methods of an order, as the paper counts it
pub order_eq : (o : Ordering) → is_eq o ≡ eqb (order_number o) 1
order_eq Less = refl
order_eq Equal = refl
order_eq Greater = refl

pub order_lt : (o : Ordering) → is_lt o ≡ eqb (order_number o) 0
order_lt Less = refl
order_lt Equal = refl
order_lt Greater = refl

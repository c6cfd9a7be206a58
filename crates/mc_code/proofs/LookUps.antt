-- What was found in a list is one.
use Rattle.std.proofs.Common.{◌≡◌, Some}

pub some_is : {X : Type 0} (x y : X) → Some x ≡ Some y → x ≡ y
some_is x y e = cc

-- IEEE 754 binary32 to nearest, ties to even, each operation rounded once: the arithmetic of every definition.
use Rattle.std.specs.Prelude.{ℕ, Float}
use Rattle.std.specs.Float.{binary32}
use Rattle.std.specs.Float.Ieee.{add, sub, mul, div, neg, of_bits}

infixl 60 ◌+ᶠ◌
infixl 60 ◌-ᶠ◌
infixl 70 ◌*ᶠ◌
infixl 70 ◌/ᶠ◌
abbrev pub ◌+ᶠ◌ : Float → Float → Float
◌+ᶠ◌ a b = add binary32 a b

abbrev pub ◌-ᶠ◌ : Float → Float → Float
◌-ᶠ◌ a b = sub binary32 a b

abbrev pub ◌*ᶠ◌ : Float → Float → Float
◌*ᶠ◌ a b = mul binary32 a b

abbrev pub ◌/ᶠ◌ : Float → Float → Float
◌/ᶠ◌ a b = div binary32 a b

abbrev pub negᶠ : Float → Float
negᶠ a = neg a

-- a constant by its bits
abbrev pub word : ℕ → Float
word b = of_bits binary32 b

abbrev pub zeroᶠ : Float
zeroᶠ = word 0

abbrev pub halfᶠ : Float
halfᶠ = word 0x3f00_0000

abbrev pub oneᶠ : Float
oneᶠ = word 0x3f80_0000

abbrev pub twoᶠ : Float
twoᶠ = word 0x4000_0000

-- M_PI_F, 3.14159265
abbrev pub πᶠ : Float
πᶠ = word 0x4049_0fdb

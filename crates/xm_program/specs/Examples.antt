-- The places of the worked examples.
use Rattle.std.specs.Prelude.{true, false}
use Rattle.xm_program.specs.declared.places.Place.{Place}

abbrev pub a_file : Place
a_file = record { device = 1; number = 7; is_file = true }

-- on the same device
abbrev pub another_file : Place
another_file = record { device = 1; number = 8; is_file = true }

-- a file of the same number on another device
abbrev pub another_device : Place
another_device = record { device = 2; number = 7; is_file = true }

abbrev pub a_device : Place
a_device = record { device = 1; number = 9; is_file = false }

abbrev pub descriptors : Place
descriptors = record { device = 3; number = 1; is_file = false }

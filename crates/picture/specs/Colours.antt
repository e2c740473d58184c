-- 004's default palettes: the one of 16 colours for 0 to 15, and the one of 256 above.
use Rattle.std.specs.Prelude.{ℕ, ◌/◌, ◌%◌, List, [], ◌∷◌, get_or}
use Rattle.picture.specs.declared.palette.Colour.{Colour}

abbrev pub rgb : ℕ → ℕ → ℕ → Colour
rgb r g b = record { red = r; green = g; blue = b }

abbrev pub sixteen : List Colour
sixteen =
    rgb 0 0 0 ∷ rgb 0 0 170 ∷ rgb 0 170 0 ∷ rgb 0 170 170 ∷ rgb 170 0 0 ∷ rgb 170 0 170 ∷ rgb 170 85 0 ∷ rgb 170 170 170
    ∷ rgb 85 85 85 ∷ rgb 85 85 255 ∷ rgb 85 255 85 ∷ rgb 85 255 255 ∷ rgb 255 85 85 ∷ rgb 255 85 255 ∷ rgb 255 255 85 ∷ rgb 255 255 255 ∷ []

-- three bits, and two, spread over 0 to 255
abbrev pub eighths : List ℕ
eighths = 0 ∷ 36 ∷ 73 ∷ 109 ∷ 146 ∷ 182 ∷ 219 ∷ 255 ∷ []

abbrev pub quarters : List ℕ
quarters = 0 ∷ 85 ∷ 170 ∷ 255 ∷ []

-- bits 7 and 6 are blue, 5 to 3 green, 2 to 0 red
abbrev pub of256 : ℕ → Colour
of256 b = rgb (get_or eighths (b % 8) 0) (get_or eighths (b / 8 % 8) 0) (get_or quarters (b / 64) 0)

unfoldable pub colour_of : ℕ → Colour
colour_of b = get_or sixteen b (of256 b)

-- three bytes for each dot
unfoldable pub painted : List ℕ → List ℕ
painted [] = []
painted (d ∷ ds) = (colour_of d).red ∷ ((colour_of d).green ∷ ((colour_of d).blue ∷ painted ds))

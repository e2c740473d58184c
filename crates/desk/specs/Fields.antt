-- The fields of the environment: the names, in the fields' order, and how a value is read.
use Rattle.std.specs.Prelude.{ℕ, List, [], ◌∷◌, map, get_or, Option, None, Some, Result}
use Rattle.text.specs.Items.{items, place_in}
use Rattle.text.specs.Bytes.{bytes}
use Rattle.text.specs.Number.{decimal_of, at_most, signed_of}
use Rattle.text.specs.declared.number.Flaw.{Flaw}
use Rattle.desk.specs.declared.field.Field.{Field}
use Rattle.desk.specs.declared.field.Field.TheVariants.{Bound, Position, Origin, Corner, Register, Nesting}
use Rattle.desk.specs.declared.field.Bound.TheVariants.{Width, Height, Left, Top, Right, Bottom}
use Rattle.desk.specs.declared.field.Axis.TheVariants.{X, Y}
use Rattle.desk.specs.declared.field.Corner.TheVariants.{X0, Y0, X1, Y1}
use Rattle.desk.specs.declared.field.Register.TheVariants.{Mode, Pattern, First, Second, Counter, Depth, Place, Colour, State}
use Rattle.desk.specs.declared.field.Register as Name
use Rattle.desk.specs.declared.field.Kind.{Kind}
use Rattle.desk.specs.declared.field.Kind.TheVariants.{Unsigned, Signed, Byte}

abbrev pub fields : List Field
fields =
    Bound Width ∷ Bound Height ∷ Bound Left ∷ Bound Top ∷ Bound Right ∷ Bound Bottom
    ∷ Position X ∷ Position Y
    ∷ Origin X ∷ Origin Y
    ∷ Corner X0 ∷ Corner Y0 ∷ Corner X1 ∷ Corner Y1
    ∷ Register Mode ∷ Register Pattern ∷ Register First ∷ Register Second ∷ Register Counter ∷ Register Depth ∷ Register Place ∷ Register Colour ∷ Register State
    ∷ Nesting ∷ []

unfoldable pub names : List (List ℕ)
names = items (bytes "width height left top right bottom x y ox oy x0 y0 x1 y1 mode pattern first second counter depth place colour state nesting")

unfoldable pub field_of : List ℕ → Option Field
field_of name = get_or (map Some fields) (place_in name names) None

-- two registers take a minus sign, and two are bytes
abbrev pub kind_of_register : Name.Register → Kind
kind_of_register Mode = Unsigned
kind_of_register Pattern = Unsigned
kind_of_register First = Signed
kind_of_register Second = Signed
kind_of_register Counter = Unsigned
kind_of_register Depth = Unsigned
kind_of_register Place = Unsigned
kind_of_register Colour = Byte
kind_of_register State = Byte

-- coordinates take a minus sign
abbrev pub kind_of : Field → Kind
kind_of (Bound b) = Unsigned
kind_of (Position a) = Signed
kind_of (Origin a) = Signed
kind_of (Corner c) = Signed
kind_of (Register r) = kind_of_register r
kind_of Nesting = Unsigned

abbrev pub read_as : Kind → List ℕ → Result ℕ Flaw
read_as Unsigned v = decimal_of v
read_as Signed v = signed_of v
read_as Byte v = at_most 255 (decimal_of v)

-- The lines that tell what the header of a store file has.
use Rattle.std.specs.Prelude.{◌++◌, ◌+◌, ◌/◌, ◌%◌, ℕ, List, [], ◌∷◌, flat_map, if◌then◌else◌, codes, nat_lt}
use Rattle.std.specs.Fmt.{decimal}
use Rattle.store_image.specs.declared.header.Header.{Header}

-- a hexadecimal digit, in lower case (RFC 4648, section 8, but for the case)
abbrev pub hex_digit : ℕ → ℕ
hex_digit n = if nat_lt n 10 then 48 + n else (87 + n)

-- the two digits of a byte, the higher first
abbrev pub hex_byte : ℕ → List ℕ
hex_byte byte = hex_digit (byte / 16) ∷ hex_digit (byte % 16) ∷ []

-- the bytes in hexadecimal digits
abbrev pub hex_of : List ℕ → List ℕ
hex_of bytes = flat_map hex_byte bytes

-- the format and the numbers of the header
abbrev pub number_lines : Header → List ℕ
number_lines h =
    codes "format " ++ (decimal h.format ++ (codes "\nterms " ++ (decimal h.terms ++ (codes "\ntriples " ++ (decimal h.triples ++ (codes "\nlongest " ++ (decimal h.longest
    ++ (codes "\nblocks " ++ (decimal h.blocks ++ codes "\n")))))))))

-- the six lines: the format, the numbers, and the name of the data in hexadecimal digits
unfoldable pub header_lines : Header → List ℕ
header_lines h = number_lines h ++ (codes "data " ++ (hex_of h.data_id ++ 10 ∷ []))

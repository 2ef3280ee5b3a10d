-- Values of attributes as they are written.
use Rattle.std.specs.Prelude.{ℕ, List, [], ◌∷◌, ◌++◌}
use Rattle.nl_core.specs.Numbers.{le16, be16, le32, le64, le_i32}
use Rattle.rt_layout.specs.declared.value.Value.{Value}
use Rattle.rt_layout.specs.declared.value.Value.TheVariants.{U8, U16, U16Be, U32, U64, I32, Bytes, Name, Struct}

-- The bytes of a value; those of a struct are as given.
abbrev pub value_text : {S : Type 0} → (S → List ℕ) → Value S → List ℕ
value_text struct_text (U8 n) = n ∷ []
value_text struct_text (U16 n) = le16 n
value_text struct_text (U16Be n) = be16 n
value_text struct_text (U32 n) = le32 n
value_text struct_text (U64 n) = le64 n
value_text struct_text (I32 z) = le_i32 z
value_text struct_text (Bytes bytes) = bytes.now
value_text struct_text (Name name) = name.now ++ 0 ∷ []
value_text struct_text (Struct s) = struct_text s

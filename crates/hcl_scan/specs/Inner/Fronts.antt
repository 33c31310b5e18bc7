-- The meaning of the first bytes of a text: a mark, or the forms that they lead to.
use Rattle.std.specs.Prelude.{◌≡◌, ℕ, List, Some, None}
use Rattle.hcl_scan.specs.Inner.Prefixes.{prefix_of}
use Rattle.hcl_scan.specs.Inner.Punctuation.{first_punctuation}
use Rattle.hcl_scan.specs.declared.front.Front.{Front}
use Rattle.hcl_scan.specs.declared.front.Front.TheVariants.{Mark, Led}
use Rattle.hcl_scan.specs.declared.front.Prefix.TheVariants.{Sign}

-- bytes that could be a mark and are none: no mark is found
abbrev pub IsFront : List ℕ → Front → Type 0
IsFront seen (Mark kind len) = (prefix_of seen ≡ Sign) × (first_punctuation seen ≡ Some (kind, len))
IsFront seen (Led Sign) = (prefix_of seen ≡ Sign) × (first_punctuation seen ≡ None)
IsFront seen (Led prefix) = prefix_of seen ≡ prefix

-- Which names are passed over and which files are taken: those of `terraform fmt -recursive`, and OpenTofu's `.tofu` and
-- `.tofutest.hcl`.
use Rattle.std.specs.Prelude.{ℕ, Bool, ◌||◌, ◌&&◌, ◌==◌, List, codes, length, nat_lt}
use Rattle.std.specs.List as list

abbrev pub begins : List ℕ → List ℕ → Bool
begins front name = list.starts_with (λ a b. a == b) name front

abbrev pub ends : List ℕ → List ℕ → Bool
ends back name = list.ends_with (λ a b. a == b) name back

-- a file or folder of this name is passed over: `.NAME`, `NAME~` and `#NAME#`
abbrev pub is_passed_over : List ℕ → Bool
is_passed_over name =
    begins (codes ".") name || ends (codes "~") name
    || (nat_lt 1 (length name) && begins (codes "#") name && ends (codes "#") name)

-- a file of this name is taken
abbrev pub is_taken : List ℕ → Bool
is_taken name =
    ends (codes ".tf") name || ends (codes ".tfvars") name || ends (codes ".tofu") name
    || ends (codes ".tftest.hcl") name || ends (codes ".tfmock.hcl") name
    || ends (codes ".tfquery.hcl") name || ends (codes ".tofutest.hcl") name

-- Sorts by numbers, different ones by different numbers.
use Rattle.std.specs.Prelude.{◌≡◌, ℕ, ◌==◌, if◌then◌else◌, refl}
use Rattle.cp_model.specs.Term.{Sort, text_sort, datum_sort, name_sort, skey_sort, akey_sort}

-- The number of a sort.
abbrev pub sort_number : Sort → ℕ
sort_number text_sort = 0
sort_number datum_sort = 1
sort_number name_sort = 2
sort_number skey_sort = 3
sort_number akey_sort = 4

-- The sort with a number.
abbrev pub sort_from : ℕ → Sort
sort_from n = if n == 0 then text_sort else if n == 1 then datum_sort else if n == 2 then name_sort else if n == 3 then skey_sort else akey_sort

pub sort_back : (s : Sort) → sort_from (sort_number s) ≡ s
sort_back text_sort = refl
sort_back datum_sort = refl
sort_back name_sort = refl
sort_back skey_sort = refl
sort_back akey_sort = refl

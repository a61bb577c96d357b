-- Which slot leads when another comes up: that one, or the one that led.
use Rattle.std.specs.Prelude.{◌≡◌, ◌⊎◌, Option, Some}
use Rattle.search.specs.declared.rank.Lead.{Lead}

abbrev pub Leads : Option Lead → Lead → Lead → Type 0
Leads best next r = (r ≡ next) ⊎ (best ≡ Some r)

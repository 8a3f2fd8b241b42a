-- Each claim of specs/Claims.antt, proved.
-- Assumes nothing.
use Rattle.headers.specs.Claims.{LookupFindsValue, WellFormedHeaded, HeadersFew, ValuesFit, HeadersProper, PrintedParsed, HeaderParses, NamesHeld, PlacesInside, NumbersHold}
use Rattle.headers.proofs.Blocks as Blocks
use Rattle.headers.proofs.Walks as Walks
use Rattle.headers.proofs.Lookups as Lookups
use Rattle.headers.proofs.NamePlaces as NamePlaces
use Rattle.headers.proofs.Numbers as Numbers
use Rattle.headers.proofs.Sizes as Sizes

pub lookup-finds-value : LookupFindsValue
lookup-finds-value = Lookups.value_found

pub well-formed-headed : WellFormedHeaded
well-formed-headed = Lookups.well-formed-headed

pub headers-few : HeadersFew
headers-few = Lookups.headers-few

pub values-fit : ValuesFit
values-fit = Sizes.values-fit

pub headers-proper : HeadersProper
headers-proper = Lookups.headers-proper

pub printed-parsed : PrintedParsed
printed-parsed = record { back = Blocks.parsed-printed; bytes = Blocks.printed-parsed }

pub header-parses : HeaderParses
header-parses = Walks.header-parses

pub names-held : NamesHeld
names-held = NamePlaces.names-held

pub places-inside : PlacesInside
places-inside = record { of_one = Lookups.place-fits; of_first = Lookups.first_fits; of_second = Lookups.second_fits }

pub numbers-hold : NumbersHold
numbers-hold = Numbers.numbers-hold

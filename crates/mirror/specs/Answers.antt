-- The octets of addresses, as the code has them.
use Rattle.std.specs.Prelude.{◌≡◌, ℕ, List, [], ◌∷◌, codes, Option, Some, None}
use Rattle.session_model.specs.declared.network.Address.{Address}
use Rattle.session_model.specs.Lines.{dash, hex_word}
use Rattle.session_model.specs.Networks.{base_of, family_word, length_of, octets_of}
use Rattle.mirror_model.specs.declared.route.Route.{Route}
use Rattle.mirror_model.specs.OutputText.{gateway_word}
use Rattle.mirror.specs.declared.answers.AddressOctets.{AddressOctets}
use Rattle.mirror.specs.declared.answers.AddressOctets.TheVariants.{V4, V6}
use Rattle.mirror.specs.declared.answers.RouteOctets.{RouteOctets}

-- All of them, whatever the family.
abbrev pub octets_in : AddressOctets → List ℕ
octets_in (V4 octets) = octets
octets_in (V6 octets) = octets

-- The word of their family.
abbrev pub family_in : AddressOctets → List ℕ
family_in (V4 octets) = codes "4"
family_in (V6 octets) = codes "6"

-- The word of a gateway's octets.
abbrev pub gateway_in : Option AddressOctets → List ℕ
gateway_in None = dash ∷ []
gateway_in (Some octets) = hex_word (octets_in octets)

-- They are those of a route that answers for an address.
pub record AreOctetsOf (a : Address) (r : Route) (o : RouteOctets) : Type 0 where
  pub address : octets_in o.address ≡ octets_of a
  pub family : family_in o.address ≡ family_word a
  pub network : octets_in o.network ≡ octets_of (base_of r.network)
  pub length : o.length ≡ length_of r.network
  pub gateway : gateway_in o.gateway ≡ gateway_word r.gateway

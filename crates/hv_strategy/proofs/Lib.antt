pub mod RegionLaws

pub mod Pens
pub mod Lines
pub mod Laying
pub mod Listings
pub mod Lists
pub mod Worked
